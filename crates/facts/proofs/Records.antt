-- A table is its records: storing a cell changes its record alone, and a table with the layout is told by its cells.
use mathlib.Core.Path.{◌≡◌, refl, sym, ◌∙◌, ap, subst}
use mathlib.Core.Bool.{Bool, true, false}
use mathlib.Core.List.{List, ◌++◌}
use Prim.Native.Nat.{ℕ, ◌+◌, ◌-◌, ◌*◌, ◌/◌, ◌%◌, ◌<◌}
use native.Mathlib.Omega.{arith}
use native.Mathlib.Nat.{add_assoc, min-eq_left}
use lib.Dec.{eqb, ltb}
use lib.ListN.{length, get_or, take, drop, length-append, length-take, length-drop, get_or-append}
use lib.Seq.{ext_get_or, get_or-take, get_or-drop, get_or-append-add, drop_at, take_at, length-take-le}
use borrow.Author.Tests.{eqb-true, eqb-false, ltb-true, ltb-false}
use Rattle.facts.specs.declared.Cell.{Cell}
use Rattle.facts.specs.Record.{record_size, record_of, read_cell, cell_at, put_record, put_cell, FineCell, Layout}
use Rattle.facts.proofs.Mask.{record_length_lem, read_back}

-- the record of cell i
abbrev pub part : List ℕ → ℕ → List ℕ
part t i = take record_size (drop (record_size * i) t)

pub part_length : (t : List ℕ) (n i : ℕ) → length t ≡ record_size * n → i < n → length (part t i) ≡ record_size
part_length t n i e h =
    length-take record_size (drop (record_size * i) t) ∙ min-eq_left (rw (length-drop (record_size * i) t, e) (omega arith))

pub part_at : (t : List ℕ) (i r : ℕ) → r < record_size → get_or (part t i) r 0 ≡ get_or t (record_size * i + r) 0
part_at t i r h = get_or-take record_size (drop (record_size * i) t) r 0 h ∙ get_or-drop (record_size * i) t r 0

module _ (t : List ℕ) (n i : ℕ) (b : List ℕ) (e : length t ≡ record_size * n) (h : i < n) (l : length b ≡ record_size) where
  front : length (take (record_size * i) t) ≡ record_size * i
  front = length-take-le (record_size * i) t (omega arith)

  pub put_length : length (put_record t i b) ≡ record_size * n
  unfolding put_record
  put_length =
      rw (length-append (take (record_size * i) t) (b ++ drop (record_size * i + record_size) t), front, length-append b (drop (record_size * i + record_size) t), l, length-drop (record_size * i + record_size) t, e)
      (omega arith)

  pub put_here : part (put_record t i b) i ≡ b
  unfolding put_record
  put_here =
      rw (drop_at (take (record_size * i) t) (b ++ drop (record_size * i + record_size) t) (record_size * i) front)
      (take_at b (drop (record_size * i + record_size) t) record_size l)

  put_low : (x : ℕ) → x < record_size * i → get_or (put_record t i b) x 0 ≡ get_or t x 0
  unfolding put_record
  put_low x q =
      get_or-append (take (record_size * i) t) (b ++ drop (record_size * i + record_size) t) 0 x (rw front q) ∙ get_or-take (record_size * i) t x 0 q

  put_high : (y : ℕ) → get_or (put_record t i b) (record_size * i + (record_size + y)) 0 ≡ get_or t (record_size * i + (record_size + y)) 0
  unfolding put_record
  put_high y =
      let past-front : get_or (take (record_size * i) t ++ (b ++ drop (record_size * i + record_size) t)) (record_size * i + (record_size + y)) 0 ≡ get_or (b ++ drop (record_size * i + record_size) t) (record_size + y) 0 = rw front at (get_or-append-add (take (record_size * i) t) (b ++ drop (record_size * i + record_size) t) (record_size + y) 0) in
      let past-record : get_or (b ++ drop (record_size * i + record_size) t) (record_size + y) 0 ≡ get_or (drop (record_size * i + record_size) t) y 0 = rw l at (get_or-append-add b (drop (record_size * i + record_size) t) y 0) in
      past-front ∙ past-record ∙ get_or-drop (record_size * i + record_size) t y 0 ∙ ap (λ (x : ℕ). get_or t x 0) (add_assoc (record_size * i) record_size y)

  put_outside : (j r : ℕ) → r < record_size → (j ≡ i → ⊥) → get_or (put_record t i b) (record_size * j + r) 0 ≡ get_or t (record_size * j + r) 0
  put_outside j r q ne = side (ltb j i) refl
    where
      side : (c : Bool) → ltb j i ≡ c → get_or (put_record t i b) (record_size * j + r) 0 ≡ get_or t (record_size * j + r) 0
      side true w = let lt = ltb-true j i w in put_low (record_size * j + r) (omega arith)
      side false w =
          let ge = ltb-false j i w in
          let x : record_size * j + r ≡ record_size * i + (record_size + (record_size * j + r - (record_size * i + record_size))) = omega (arith, ne) in
          subst (λ (z : ℕ). get_or (put_record t i b) z 0 ≡ get_or t z 0) (sym x) (put_high (record_size * j + r - (record_size * i + record_size)))

  pub put_there : (j : ℕ) → j < n → (j ≡ i → ⊥) → part (put_record t i b) j ≡ part t j
  put_there j hj ne =
      let one = part_length (put_record t i b) n j put_length hj in
      ext_get_or 0 (part (put_record t i b) j) (part t j) (one ∙ sym (part_length t n j e hj))
      (λ r q.
      let small : r < record_size = subst (λ (z : ℕ). r < z) one q in
      part_at (put_record t i b) j r small ∙ put_outside j r small ne ∙ sym (part_at t j r small))

module _ (n : ℕ) (t : List ℕ) (i : ℕ) (c : Cell) (g : Layout n t) (h : i < n) (f : FineCell c) where
  long : length (record_of c 0) ≡ record_size
  long = record_length_lem c 0 f

  pub stored_cell : cell_at (put_cell t i c) i ≡ c
  unfolding cell_at
  stored_cell = ap read_cell (put_here t n i (record_of c 0) g.long h long) ∙ read_back c 0 f

  pub other_cell : (j : ℕ) → j < n → (j ≡ i → ⊥) → cell_at (put_cell t i c) j ≡ cell_at t j
  unfolding cell_at
  other_cell j hj ne = ap read_cell (put_there t n i (record_of c 0) g.long h long j hj ne)

  pub put_layout : Layout n (put_cell t i c)
  put_layout =
      record {
        long = put_length t n i (record_of c 0) g.long h long;
        records = λ j hj. told j hj (eqb j i) refl;
        fine = λ j hj. fine_there j hj (eqb j i) refl;
      }
    where
      told : (j : ℕ) → j < n → (b : Bool) → eqb j i ≡ b → part (put_cell t i c) j ≡ record_of (cell_at (put_cell t i c) j) 0
      told j hj true w = rw (eqb-true j i w, stored_cell) (put_here t n i (record_of c 0) g.long h long)
      told j hj false w =
          rw (other_cell j hj (eqb-false j i w)) (put_there t n i (record_of c 0) g.long h long j hj (eqb-false j i w) ∙ g.records j hj)

      fine_there : (j : ℕ) → j < n → (b : Bool) → eqb j i ≡ b → FineCell (cell_at (put_cell t i c) j)
      fine_there j hj true w = rw (eqb-true j i w, stored_cell) f
      fine_there j hj false w = rw (other_cell j hj (eqb-false j i w)) (g.fine j hj)

-- a byte of a table with the layout is a byte of a cell's record
told_by_cell : (n : ℕ) (t : List ℕ) (x : ℕ) → Layout n t → x < record_size * n → get_or t x 0 ≡ get_or (record_of (cell_at t (x / record_size)) 0) (x % record_size) 0
told_by_cell n t x g h =
    let split : x ≡ record_size * (x / record_size) + x % record_size = omega arith in
    let inside : x / record_size < n = omega arith in
    ap (λ (z : ℕ). get_or t z 0) split ∙ sym (part_at t (x / record_size) (x % record_size) (omega arith)) ∙ ap (λ (l : List ℕ). get_or l (x % record_size) 0) (g.records (x / record_size) inside)

pub same_table : (n : ℕ) (t u : List ℕ) → Layout n t → Layout n u → ((i : ℕ) → i < n → cell_at t i ≡ cell_at u i) → t ≡ u
same_table n t u g k same =
    ext_get_or 0 t u (g.long ∙ sym k.long)
    (λ x h.
    let lt : x < record_size * n = subst (λ (z : ℕ). x < z) g.long h in
    let inside : x / record_size < n = omega arith in
    told_by_cell n t x g lt ∙ ap (λ (c : Cell). get_or (record_of c 0) (x % record_size) 0) (same (x / record_size) inside) ∙ sym (told_by_cell n u x k lt))
