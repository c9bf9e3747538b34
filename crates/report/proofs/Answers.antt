-- What admission answers where the door's questions are all yes: the verdict, with its numbers below 1,000.
use mathlib.Core.Path.{◌≡◌, sym, ◌∙◌, ap, subst}
use mathlib.Core.Bool.{true}
use mathlib.Core.List.{List}
use Prim.Native.Nat.{ℕ, ◌*◌, ◌/◌, ◌≤◌, ◌<◌}
use native.Mathlib.Omega.{arith}
use borrow.Author.Tests.{eq-eqb}
use lib.ListN.{length, take}
use lib.Seq.{length-take-le}
use Rattle.map.specs.Map.{map_length}
use Rattle.machine.specs.Step.{word_count}
use Rattle.emulator.specs.Run.{image_fits}
use Rattle.facts.specs.Record.{depths}
use Rattle.transfer.specs.Passes.{table_length, least_table}
use Rattle.admission.specs.Admission.{AdmitAnswer}
use Rattle.admission.specs.Admission.{Refused, Found}
use Rattle.std.specs.Prelude.{Option, Some, None, Ok, IfSome}
use Rattle.findings.specs.declared.Failure.{Failure}
use Rattle.findings.specs.Findings.{fault_number}
use Rattle.admission.specs.Admission.{admit_told, AdmitResult, verdict_of, resulting, admit_result}
use Rattle.admission.proofs.Range.{Told, verdict_told}
use Rattle.report.specs.Report.{answer_line, words_line}

-- the part of the buffer that is lent has the table's length
pub part_long : (buffer : List ℕ) (n : ℕ) → n ≤ length buffer → n ≡ length (take n buffer)
part_long buffer n h = sym (length-take-le n buffer h)

-- what the lines are made of: an image of at most 400 words
abbrev pub LetIn : ℕ → List ℕ → Type 0
LetIn room image = (64 ≤ room) × (image_fits image ≡ true) × (length image ≤ 800)

answered : (image map table : List ℕ) → image_fits image ≡ true → length map ≡ map_length → length table ≡ table_length image
    → (admit_result image map table).answer ≡ verdict_of image map (least_table image)
unfolding admit_result
answered image map table words long room =
    rw (words, eq-eqb (length map) map_length long, eq-eqb (length table) (table_length image) room)

-- the answer of a call with the part of the buffer that the image needs
pub verdict : (image map : List ℕ) {room sweeps : ℕ} {last : List ℕ} {r : AdmitAnswer} → LetIn room image → length map ≡ map_length → (buffer : List ℕ) → 57600 ≡ length buffer
    → resulting r sweeps last ≡ admit_result image map (take (length image / 2 * 144) buffer) → r ≡ verdict_of image map (least_table image)
verdict image map pre sized buffer full e =
    let part = take (length image / 2 * 144) buffer in
    let long = part_long buffer (length image / 2 * 144) (omega (arith, pre.2)) in
    ap (λ (x : AdmitResult). x.answer) e ∙ answered image map part pre.1 sized (omega (arith, long))

module _ (image map : List ℕ) {r : AdmitAnswer} (e : r ≡ verdict_of image map (least_table image)) where
  -- the answer's line is the words' line
  pub the_line : {a : AdmitAnswer} → r ≡ a → answer_line image map a ≡ words_line map image
  the_line f = ap (answer_line image map) (sym f ∙ e)

  pub never_refused : {n : ℕ} → r ≡ Refused n → ⊥
  never_refused f = subst (Told (word_count image)) (sym e ∙ f) (verdict_told image map (least_table image))

  pub small_found : {n d a : ℕ} → length image ≤ 800 → r ≡ Found n d a → (n < 1000) × (d < 1000) × (a < 1000)
  small_found {n} {d} {a} most f =
      let t : (21 ≤ n) × (n < 30) × (d < depths) × (a < word_count image) = subst (Told (word_count image)) (sym e ∙ f) (verdict_told image map (least_table image)) in
      (omega (arith, t.1), omega (arith, t.2), omega (arith, t.3))

  pub first_small : length image ≤ 800 → (first : Option Failure) → r ≡ admit_told (Ok first)
      → IfSome first (λ f. (fault_number f.fault < 1000) × (f.depth < 1000) × (f.address < 1000))
  first_small most None f = tt
  first_small most (Some failure) f = small_found most f
