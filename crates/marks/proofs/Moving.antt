-- Tables and their marks made others, one after another; and a record that changed, noted.
use mathlib.Core.Path.{◌≡◌, refl, sym, ◌∙◌, ap, subst}
use mathlib.Core.Bool.{Bool, true, false, ◌||◌, true≢false}
use mathlib.Core.List.{List}
use mathlib.Core.Logic.{◌⊎◌, inl, inr}
use Prim.Native.Nat.{ℕ, ◌*◌, ◌/◌, ◌%◌, ◌≤◌, ◌<◌}
use native.Mathlib.Decide.{ℕ_discrete}
use native.Mathlib.Omega.{arith}
use lib.Arith.{digits_lt}
use Rattle.machine.specs.Step.{word_count}
use Rattle.facts.specs.Record.{depths, cell_at}
use Rattle.transfer.specs.Passes.{point_at, is_call_site}
use Rattle.transfer.proofs.Returns.{same_site}
use Rattle.callers.proofs.Points.{point_depth, point_address}
use Rattle.marks.specs.Marks.{set_size, is_due, is_changed, is_site, SameSites, Woken, Sited, Moves, Noted, Marked}

-- a mark that is not clear is set
pub set_mark : (b : Bool) → (b ≡ false → ⊥) → b ≡ true
set_mark true h = refl
set_mark false h = absurd (h refl)

module _ {image : List ℕ} where
  same_refl : (t : List ℕ) (d : ℕ) → SameSites image t t d
  same_refl t d = record { same = λ a l. refl }

  pub same_then : {t u v : List ℕ} {d : ℕ} → SameSites image t u d → SameSites image u v d → SameSites image t v d
  same_then p q = record { same = λ a l. q.same a l ∙ p.same a l }

  pub woken_later : {t m u n : List ℕ} {d : ℕ} → Moves image t m u n → Woken image m d → Woken image n d
  woken_later {m = m} {n = n} p w = record {
    due = λ i l low high r. set_mark (is_due n i)
        (λ e. true≢false (sym (w.due i l low high (sym (p.returning i l) ∙ r)) ∙ p.due i l e));
  }

  pub moves_none : {t m : List ℕ} → Sited image t m → Moves image t m t m
  moves_none {t = t} s = record {
    sited = s;
    due = λ i l h. h;
    changed = λ i l h. (h, refl);
    within = λ i l h. (refl, refl);
    returning = λ i l. refl;
    births = λ d l. inl (same_refl t d);
  }

  pub moves_then : {t m u n v o : List ℕ} → Moves image t m u n → Moves image u n v o → Moves image t m v o
  moves_then {t = t} {u = u} {n = n} {v = v} {o = o} p q = record {
    sited = q.sited;
    due = λ i l h. p.due i l (q.due i l h);
    changed = λ i l h. let later = q.changed i l h in let first = p.changed i l later.0 in (first.0, later.1 ∙ first.1);
    within = λ i l h. let later = q.within i l h in let first = p.within i l (q.due i l h) in (later.0 ∙ first.0, later.1 ∙ first.1);
    returning = λ i l. q.returning i l ∙ p.returning i l;
    births = λ d l. both d (p.births d l) (q.births d l);
  }
    where
      both : (d : ℕ) → SameSites image t u d ⊎ Woken image n d → SameSites image u v d ⊎ Woken image o d → SameSites image t v d ⊎ Woken image o d
      both d (inl a) (inl b) = inl (same_then a b)
      both d (inl a) (inr w) = inr w
      both d (inr w) b = inr (woken_later q w)

  pub noted_none : {t m : List ℕ} → Sited image t m → Noted image t m t m
  noted_none {t = t} s = record { moves = moves_none s; born = λ d l h. (h, same_refl t d) }

  pub noted_then : {t m u n v o : List ℕ} → Noted image t m u n → Noted image u n v o → Noted image t m v o
  noted_then p q = record {
    moves = moves_then p.moves q.moves;
    born = λ d l h. let later = q.born d l h in let first = p.born d l later.0 in (first.0, same_then first.1 later.1);
  }

-- ---- one record changed, and is noted
module _ (image t m u n : List ℕ) (depth a : ℕ) (words : word_count image ≤ 8192) (d : depth < depths) (l : a < word_count image) (s : Sited image t m)
    (others : (i : ℕ) → i < depths * word_count image → (i ≡ point_at (word_count image) depth a → ⊥) → cell_at u i ≡ cell_at t i)
    (wider : is_call_site image t depth a ≡ true → is_call_site image u depth a ≡ true) (k : Marked image u m depth a n) where
  small : (i : ℕ) → i < depths * word_count image → i < set_size
  small i h = omega arith

  grown : (x y : Bool) → (x ≡ true → y ≡ true) → (x || y) ≡ y
  grown true y h = sym (h refl)
  grown false y h = refl

  here : is_site n (point_at (word_count image) depth a) ≡ is_call_site image u depth a
  here = k.site ∙ ap (λ (b : Bool). b || is_call_site image u depth a) (s.sites depth a d l) ∙ grown (is_call_site image t depth a) (is_call_site image u depth a) wider

  site_at_lem : (e b : ℕ) → e < depths → b < word_count image → is_site n (point_at (word_count image) e b) ≡ is_call_site image u e b
  site_at_lem e b f h = go (ℕ_discrete (point_at (word_count image) e b) (point_at (word_count image) depth a))
    where
      go : Dec (point_at (word_count image) e b ≡ point_at (word_count image) depth a) → is_site n (point_at (word_count image) e b) ≡ is_call_site image u e b
      go (yes q) =
          let row : e ≡ depth = sym (point_depth (word_count image) e b h) ∙ ap (λ (i : ℕ). i / word_count image) q ∙ point_depth (word_count image) depth a l in
          let place : b ≡ a = sym (point_address (word_count image) e b h) ∙ ap (λ (i : ℕ). i % word_count image) q ∙ point_address (word_count image) depth a l in
          rw (row, place) here
      go (no ne) =
          (k.others (point_at (word_count image) e b) (small (point_at (word_count image) e b) (digits_lt f h)) ne).1 ∙ s.sites e b f h
          ∙ same_site image t u e b (sym (others (point_at (word_count image) e b) (digits_lt f h) ne))

  -- where the marks of call sites are as they were, so are the call sites
  same_at : (e : ℕ) → e < depths → (e ≡ depth → is_site n (point_at (word_count image) depth a) ≡ is_site m (point_at (word_count image) depth a)) → SameSites image t u e
  same_at e f same = record { same = λ b h. sym (site_at_lem e b f h) ∙ marks b h (ℕ_discrete (point_at (word_count image) e b) (point_at (word_count image) depth a)) ∙ s.sites e b f h }
    where
      marks : (b : ℕ) → b < word_count image → Dec (point_at (word_count image) e b ≡ point_at (word_count image) depth a)
          → is_site n (point_at (word_count image) e b) ≡ is_site m (point_at (word_count image) e b)
      marks b h (yes q) =
          let row : e ≡ depth = sym (point_depth (word_count image) e b h) ∙ ap (λ (i : ℕ). i / word_count image) q ∙ point_depth (word_count image) depth a l in
          subst (λ (i : ℕ). is_site n i ≡ is_site m i) (sym q) (same row)
      marks b h (no ne) = (k.others (point_at (word_count image) e b) (small (point_at (word_count image) e b) (digits_lt f h)) ne).1

  birth_at : (e : ℕ) → e < depths → Dec (e ≡ depth) → SameSites image t u e ⊎ Woken image n e
  birth_at e f (no ne) = inl (same_at e f (λ q. absurd (ne q)))
  birth_at e f (yes q) = go k.woken
    where
      go : (is_site n (point_at (word_count image) depth a) ≡ is_site m (point_at (word_count image) depth a)) ⊎ Woken image n depth → SameSites image t u e ⊎ Woken image n e
      go (inl same) = inl (same_at e f (λ x. same))
      go (inr w) = inr (subst (Woken image n) (sym q) w)

  clear_is_other : (i : ℕ) {b : Bool} → (i ≡ point_at (word_count image) depth a → b ≡ true) → b ≡ false → (i ≡ point_at (word_count image) depth a → ⊥)
  clear_is_other i set clear q = true≢false (sym (set q) ∙ clear)

  pub marked_noted : Noted image t m u n
  marked_noted = record {
    moves = record {
      sited = record { long = k.long; sites = site_at_lem };
      due = λ i h e. k.dues i (small i h) e;
      changed = λ i h e.
          let ne = clear_is_other i (λ q. ap (is_changed n) q ∙ k.changed) e in
          (sym (k.others i (small i h) ne).0 ∙ e, others i h ne);
      within = λ i h e.
          let ne = clear_is_other i (λ q. ap (is_due n) q ∙ k.due) e in
          ((k.others i (small i h) ne).0, others i h ne);
      returning = λ i h. k.returning i (small i h);
      births = λ e f. birth_at e f (ℕ_discrete e depth);
    };
    born = λ e f h. let first = k.born e f h in (first.0, same_at e f first.1);
  }
