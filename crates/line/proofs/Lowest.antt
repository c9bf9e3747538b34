-- The printed line read back: its numbers are those of the answer, and so the line names the lowest finding. Assumes nothing.
use mathlib.Core.Path.{◌≡◌, refl, sym, ◌∙◌, ap}
use mathlib.Core.Logic.{◌↔◌}
use mathlib.Core.Bool.{Bool, true, false}
use mathlib.Core.List.{List, [], ◌∷◌, ◌++◌, append_assoc}
use Prim.Native.Nat.{ℕ, ◌+◌, ◌-◌, ◌*◌, ◌/◌, ◌%◌, ◌<◌}
use native.Mathlib.Omega.{arith}
use lib.Dec.{ltb, leb}
use lib.ListN.{length, get_or, take, drop}
use lib.Seq.{get_or-drop}
use borrow.Author.Tests.{lt-ltb, le-ltb}
use Rattle.choice.specs.Choice.{pick, ask, asked, first_no}
use Rattle.choice.proofs.Laws.{pick_cases}
use Rattle.map.specs.Map.{map_length}
use Rattle.state.specs.State.{EachBelow}
use Rattle.machine.specs.Step.{word_count}
use Rattle.emulator.specs.Run.{image_fits}
use Rattle.transfer.specs.Passes.{least_table}
use Rattle.admission.specs.Admission.{AdmitAnswer}
use Rattle.admission.specs.Admission.{Refused, Admitted, Found}
use Rattle.admission.specs.Admission.{filled_table, verdict_of}
use Rattle.admission.specs.Lowest.{finding_in, Lowest}
use Rattle.admission.proofs.OneAnswer.{lowest_verdict, verdict_lowest}
use Rattle.text.specs.Text.{decimal, refused_text, end_text, door_line}
use Rattle.report.specs.Report.{depth_text, address_text, admitted_line, found_line, answer_line, words_line}
use Rattle.report.proofs.Answers.{never_refused}
use Rattle.line.specs.Line.{line_of}
use Rattle.line.specs.Lowest.{LineNames}

-- ---- a number read back

-- digits read up to the first byte below "0": the number, and then the bytes that are left
read_on : ℕ → List ℕ → List ℕ
read_on v [] = v ∷ []
read_on v (b ∷ bs) = pick (ltb b 48) (v ∷ b ∷ bs) (read_on (v * 10 + (b - 48)) bs)

digit : (v d n : ℕ) (bs : List ℕ) → v * 10 + d ≡ n → read_on v ((48 + d) ∷ bs) ≡ read_on n bs
unfolding read_on
digit v d n bs e =
    let same : v * 10 + (48 + d - 48) ≡ n = omega arith in
    rw (le-ltb (48 + d) 48 (omega arith)) (ap (λ (x : ℕ). read_on x bs) same)

stop : (v x : ℕ) (xs : List ℕ) → x < 48 → read_on v (x ∷ xs) ≡ v ∷ x ∷ xs
unfolding read_on
stop v x xs low = rw (lt-ltb x 48 low)

read_decimal : (n x : ℕ) (xs : List ℕ) → x < 48 → read_on 0 (decimal n ++ (x ∷ xs)) ≡ n ∷ x ∷ xs
unfolding decimal
read_decimal n x xs low =
    pick_cases Reads (ltb n 10) (λ _. digit 0 n n (x ∷ xs) (omega arith) ∙ stop n x xs low)
    (λ _. pick_cases Reads (ltb n 100)
    (λ _. digit 0 (n / 10) (n / 10) ((48 + n % 10) ∷ x ∷ xs) (omega arith) ∙ digit (n / 10) (n % 10) n (x ∷ xs) (omega arith) ∙ stop n x xs low)
    (λ _. digit 0 (n / 100) (n / 100) ((48 + n / 10 % 10) ∷ (48 + n % 10) ∷ x ∷ xs) (omega arith)
    ∙ digit (n / 100) (n / 10 % 10) (n / 10) ((48 + n % 10) ∷ x ∷ xs) (omega arith) ∙ digit (n / 10) (n % 10) n (x ∷ xs) (omega arith) ∙ stop n x xs low))
  where
    Reads : List ℕ → Type 0
    Reads digits = read_on 0 (digits ++ (x ∷ xs)) ≡ n ∷ x ∷ xs

-- ---- the line of a finding read back: each number, with the bytes behind it

number_in : List ℕ → List ℕ
number_in line = read_on 0 (drop (length refused_text) line)

depth_in : List ℕ → List ℕ
depth_in line = read_on 0 (drop (1 + length depth_text) (number_in line))

address_in : List ℕ → List ℕ
address_in line = read_on 0 (drop (1 + length address_text) (depth_in line))

module _ (n d a : ℕ) where
  read_number : number_in (found_line n d a ++ end_text) ≡ n ∷ (depth_text ++ (decimal d ++ (address_text ++ (decimal a ++ end_text))))
  unfolding number_in
  read_number =
      ap (read_on 0)
      (append_assoc (decimal n) (depth_text ++ (decimal d ++ (address_text ++ decimal a))) end_text
      ∙ ap (λ (l : List ℕ). decimal n ++ (depth_text ++ l)) (append_assoc (decimal d) (address_text ++ decimal a) end_text))
      ∙ read_decimal n 32 _ (omega arith)

  read_depth : depth_in (found_line n d a ++ end_text) ≡ d ∷ (address_text ++ (decimal a ++ end_text))
  unfolding depth_in
  read_depth = ap (λ (l : List ℕ). read_on 0 (drop 8 l)) read_number ∙ read_decimal d 32 _ (omega arith)

  read_address : address_in (found_line n d a ++ end_text) ≡ a ∷ end_text
  unfolding address_in
  read_address = ap (λ (l : List ℕ). read_on 0 (drop 10 l)) read_depth ∙ read_decimal a 10 [] (omega arith)

  -- no refusal at the door is printed so, nor an admitted program
  door_apart : (number : ℕ) → door_line number ++ end_text ≡ found_line n d a ++ end_text → ⊥
  unfolding number_in
  door_apart number same =
      omega (arith, ap (λ (l : List ℕ). get_or l 1 0) (sym (read_decimal number 10 [] (omega arith)) ∙ ap number_in same ∙ read_number))

  admitted_apart : (image map : List ℕ) → admitted_line image map ++ end_text ≡ found_line n d a ++ end_text → ⊥
  admitted_apart image map same = omega (arith, ap (λ (l : List ℕ). get_or l 0 0) same)

found_apart : (n d a m e b : ℕ) → found_line n d a ++ end_text ≡ found_line m e b ++ end_text → Found n d a ≡ Found m e b
found_apart n d a m e b same =
    let p : n ≡ m = ap (λ (l : List ℕ). get_or l 0 0) (sym (read_number n d a) ∙ ap number_in same ∙ read_number m e b) in
    let q : d ≡ e = ap (λ (l : List ℕ). get_or l 0 0) (sym (read_depth n d a) ∙ ap depth_in same ∙ read_depth m e b) in
    let r : a ≡ b = ap (λ (l : List ℕ). get_or l 0 0) (sym (read_address n d a) ∙ ap address_in same ∙ read_address m e b) in
    λ k. Found (p k) (q k) (r k)

-- ---- the law

module _ (image map : List ℕ) (number depth address : ℕ) where
  line_verdict : words_line map image ++ end_text ≡ found_line number depth address ++ end_text → verdict_of image map (least_table image) ≡ Found number depth address
  line_verdict = by (verdict_of image map (least_table image)) refl
    where
      by : (answer : AdmitAnswer) → answer ≡ verdict_of image map (least_table image) → answer_line image map answer ++ end_text ≡ found_line number depth address ++ end_text
          → answer ≡ Found number depth address
      by (Refused n) e same = absurd (never_refused image map e refl)
      by Admitted e same = absurd (admitted_apart number depth address image map same)
      by (Found n d a) e same = found_apart n d a number depth address same

pub line_names : (input : List ℕ) → LineNames input
unfolding line_of
line_names input bytes number depth address =
    by (leb map_length (length input)) (leb (length input) 928) (image_fits image) refl
  where
    image : List ℕ
    image = drop map_length input

    map : List ℕ
    map = take map_length input

    Named : Type 0
    Named = Lowest (word_count image) (finding_in image (filled_table image map)) number depth address

    own : EachBelow 256 image
    own k = let same = get_or-drop map_length input k 0 in omega (arith, bytes (map_length + k))

    by : (a b c : Bool) → image_fits image ≡ c
        → (asked (ask 12 a ∷ ask 18 b ∷ ask 11 c ∷ []) (words_line map image) door_line ++ end_text ≡ found_line number depth address ++ end_text)
        ↔ ((first_no (ask 12 a ∷ ask 18 b ∷ ask 11 c ∷ []) ≡ 0) × Named)
    by false b c f = (λ same. absurd (door_apart number depth address 12 same), λ h. absurd (omega (arith, h.0)))
    by true false c f = (λ same. absurd (door_apart number depth address 18 same), λ h. absurd (omega (arith, h.0)))
    by true true false f = (λ same. absurd (door_apart number depth address 11 same), λ h. absurd (omega (arith, h.0)))
    by true true true f = (
      λ same. (refl, verdict_lowest image map own f (line_verdict image map number depth address same)),
      λ h. ap (λ (r : AdmitAnswer). answer_line image map r ++ end_text) (lowest_verdict image map own f h.1),
    )
