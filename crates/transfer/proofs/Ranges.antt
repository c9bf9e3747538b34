-- The page of an XEC has room for its source's values. So an XEC gives the address at a place that its span gives.
use mathlib.Core.Path.{◌≡◌, sym, ap, subst, ◌∙◌}
use mathlib.Core.Bool.{true}
use mathlib.Core.List.{List}
use Prim.Native.Nat.{ℕ, ◌+◌, ◌-◌, ◌%◌, ◌≤◌, ◌<◌}
use native.Mathlib.Nat.{le_trans, mod-lt, mod-eq_of_lt, mod-add-mod, add-mod_right}
use native.Mathlib.Omega.{arith}
use lib.Dec.{leb, ltb}
use borrow.Author.Tests.{leb-true, ltb-true, lt-ltb}
use Rattle.choice.proofs.Laws.{and_first, and_second}
use Rattle.machine.specs.Shape.{Source}
use Rattle.machine.specs.Parts.{IsPage}
use Rattle.machine.proofs.InRange.{most_values, page_range}
use Rattle.facts.specs.Facts.{Span, span_of, holds}
use Rattle.facts.proofs.Makes.{span_count}
use Rattle.transfer.specs.Passes.{gives}

-- a page is not empty, has at most 256 addresses, and has one for each value of the source
pub record PageFits (source : Source) (page : ℕ) : Type 0 where
  pub some : 0 < page
  pub most : page ≤ 256
  pub enough : (facts : List ℕ) → (span_of source facts).count ≤ page

pub page_fits : (source : Source) (page : ℕ) → IsPage page → most_values source ≤ page → PageFits source page
page_fits source page p h =
    record { some = (page_range page p).0; most = (page_range page p).1; enough = λ facts. le_trans (span_count source facts) h }

-- ---- the place in the page that XEC's source gives

turned_back : (page m d : ℕ) → 0 < page → d < page → ((m + d) % page + (page - m % page)) % page ≡ d
turned_back page m d some short =
    mod-add-mod (m + d) page (page - m % page)
    ∙ ap (λ n. n % page) apart
    ∙ sym (mod-add-mod m page (d + (page - m % page)))
    ∙ ap (λ n. n % page) (regroup (m % page) (mod-lt m some))
    ∙ add-mod_right d page
    ∙ mod-eq_of_lt short
  where
    apart : m + d + (page - m % page) ≡ m + (d + (page - m % page))
    apart = omega arith

    regroup : (r : ℕ) → r < page → r + (d + (page - r)) ≡ d + page
    regroup r h = omega arith

pub gives_place : (page i : ℕ) (span : Span) (x : ℕ) → 0 < page → span.count ≤ page → holds span x ≡ true
    → gives page i span ((i + x) % page) ≡ true
unfolding gives
gives_place page i span x some enough h =
    lt-ltb _ _ (subst (λ n. n < span.count) (sym offset) short)
  where
    low : span.low ≤ x
    low = leb-true span.low x (and_first (leb span.low x) (ltb x (span.low + span.count)) h)

    high : x < span.low + span.count
    high = ltb-true x (span.low + span.count) (and_second (leb span.low x) (ltb x (span.low + span.count)) h)

    short : x - span.low < span.count
    short = omega (arith, low, high)

    apart : i + x ≡ i + span.low + (x - span.low)
    apart = omega (arith, low)

    offset : ((i + x) % page + (page - (i + span.low) % page)) % page ≡ x - span.low
    offset =
        ap (λ n. (n % page + (page - (i + span.low) % page)) % page) apart
        ∙ turned_back page (i + span.low) (x - span.low) some (omega (arith, short))
