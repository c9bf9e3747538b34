-- Records written into a trace. Assumes nothing.
use mathlib.Core.List.{List, [], ◌∷◌, ◌++◌, append_assoc, append-nil}
use mathlib.Core.Path.{◌≡◌, refl, sym, ap, ap₂, ◌∙◌}
use Prim.Native.Nat.{ℕ, ◌+◌, ◌-◌, ◌≤◌}
use native.Mathlib.Nat.{le_of_eq}
use native.Mathlib.Omega.{arith}
use borrow.Rule.Slice.PartMut.{put_mid}
use lib.ListN.{length, set, take, drop, length-append, length-take, length-drop, drop_of_length-le}
use lib.Seq.{take_all, take-take, take-append-le, drop-drop, take_at, drop_at, length-take-le}
use Rattle.emulator.specs.Run.{written_over}

-- a trace in which records were written from a place on, and its bytes up to their end
abbrev pub written : ℕ → List ℕ → List ℕ → List ℕ
written at trace records = take at trace ++ written_over records (drop at trace)

abbrev pub front : ℕ → List ℕ → List ℕ → List ℕ
front at trace records = take at trace ++ records

-- a part lent from a place to the end has room for what fits there
pub room_from : (at n : ℕ) (trace : List ℕ) → at + n ≤ length trace → n ≤ length (take (length trace - at) (drop at trace))
room_from at n trace h = simp (length-take, length-drop) (omega arith)

-- a part lent from a place to the end, in which records were written, is back
pub part_written : (at : ℕ) (trace part records : List ℕ)
    → part ≡ written_over records (take (length trace - at) (drop at trace))
    → put_mid at (length trace - at) trace part ≡ written at trace records
part_written at trace part records write =
    ap (λ (l : List ℕ). take at trace ++ l)
    (ap (λ (l : List ℕ). part ++ l) (drop_of_length-le (drop at trace) all) ∙ append-nil part
    ∙ write ∙ ap (written_over records) (take_all (length trace - at) (drop at trace) all))
  where
    all : length (drop at trace) ≤ length trace - at
    all = le_of_eq (length-drop at trace)

module _ (at n : ℕ) (trace records : List ℕ) (long : length records ≡ n) (room : at + n ≤ length trace) where
  front_length : length (front at trace records) ≡ at + n
  front_length = length-append (take at trace) records ∙ omega (arith, length-take-le at trace (omega arith))

  apart : written at trace records ≡ front at trace records ++ drop (at + n) trace
  apart =
      sym (append_assoc (take at trace) records (drop (length records) (drop at trace)))
      ∙ ap (λ (l : List ℕ). front at trace records ++ l) (ap (λ (k : ℕ). drop k (drop at trace)) long ∙ drop-drop n at trace)

  pub written_take : take (at + n) (written at trace records) ≡ front at trace records
  written_take = ap (take (at + n)) apart ∙ take_at (front at trace records) (drop (at + n) trace) (at + n) front_length

  pub written_drop : drop (at + n) (written at trace records) ≡ drop (at + n) trace
  written_drop = ap (drop (at + n)) apart ∙ drop_at (front at trace records) (drop (at + n) trace) (at + n) front_length

  pub written_length : length (written at trace records) ≡ length trace
  written_length =
      ap length apart ∙ length-append (front at trace records) (drop (at + n) trace)
      ∙ omega (arith, front_length, length-drop (at + n) trace)

-- what is written from a place on, and then before it, is written together
pub written_before : (at n : ℕ) (trace first second : List ℕ) → length first ≡ n → at + n ≤ length trace
    → written at (written (at + n) trace second) first ≡ written at trace (first ++ second)
written_before at n trace first second long room =
    ap₂ (λ (l m : List ℕ). l ++ (first ++ m)) head tail
    ∙ ap (λ (l : List ℕ). take at trace ++ l) (sym (append_assoc first second (drop (length (first ++ second)) (drop at trace))))
  where
    whole : length (take (at + n) trace) ≡ at + n
    whole = length-take-le (at + n) trace room

    head : take at (written (at + n) trace second) ≡ take at trace
    head = take-append-le at (take (at + n) trace) _ (omega (arith, whole)) ∙ take-take at (at + n) trace (omega arith)

    rest : drop (length second) (drop (at + n) trace) ≡ drop (length (first ++ second)) (drop at trace)
    rest =
        ap (drop (length second)) (sym (drop-drop n at trace)) ∙ drop-drop (length second) n (drop at trace)
        ∙ ap (λ (k : ℕ). drop k (drop at trace)) (sym (length-append first second ∙ ap (λ (k : ℕ). k + length second) long))

    tail : drop (length first) (drop at (written (at + n) trace second)) ≡ second ++ drop (length (first ++ second)) (drop at trace)
    tail =
        ap (λ (k : ℕ). drop k (drop at (written (at + n) trace second))) long ∙ drop-drop n at (written (at + n) trace second)
        ∙ drop_at (take (at + n) trace) _ (at + n) whole ∙ ap (λ (l : List ℕ). second ++ l) rest
