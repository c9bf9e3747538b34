-- What passes that are asked of a table, or joined into one, leave: none, some and then others, and one.
use mathlib.Core.Path.{◌≡◌, refl, sym, ◌∙◌, ap, ap₂, subst, subst⁻¹}
use mathlib.Core.Bool.{Bool, true, false, not, ◌&&◌, ◌||◌}
use mathlib.Core.List.{List, [], ◌∷◌, ◌++◌}
use Prim.Native.Nat.{ℕ, ◌+◌, ◌*◌, ◌≤◌, ◌<◌}
use native.Mathlib.Omega.{arith}
use native.Mathlib.Nat.{mul-le-mul_right}
use lib.Arith.{digits_lt}
use lib.Dec.{ltb}
use lib.ListN.{length, take, drop, length-append, length-drop}
use lib.Seq.{length-take-le}
use borrow.Author.Tests.{lt-ltb, le-ltb, ltb-true}
use Rattle.choice.specs.Choice.{pick}
use Rattle.machine.specs.Step.{word_count}
use Rattle.flow.specs.Flow.{Pass, join_all, changes_all, all_covered}
use Rattle.flow.proofs.Rest.{join_all-nil, join_all-one, join_all-append, changes_all-nil, changes_all-one, changes_all-append, all_covered-nil, all_covered-one, all_covered-append}
use Rattle.facts.specs.declared.Cell.{Cell}
use Rattle.facts.specs.Record.{record_size, record_of, read_cell, put_record, depths, cell_of, cell_at, put_cell, join_cell, holds_cell, FineCell, Layout}
use Rattle.facts.proofs.Cells.{join_fine}
use Rattle.facts.proofs.Records.{other_cell, put_layout, put_there}
use Rattle.transfer.specs.Passes.{point_at, toward, table_space}
use Rattle.marks.specs.Marks.{Noted}
use Rattle.marks.proofs.Moving.{noted_none, noted_then}
use Rattle.passing.specs.Passing.{asks, seen, Ready, Passed}

-- what passes leave is ready for more
pub still_ready : {image asked : List ℕ} {d : ℕ} {t u m n : List ℕ} {ps : List (Pass Cell)} {r : Bool} → Ready image asked t m
    → Passed image asked d t m ps u n r → Ready image asked u n
still_ready g p = record { words = g.words; layout = p.laid; sited = λ e. (p.noted e).moves.sited }

not_both : (a b : Bool) → (not a || not b) ≡ not (a && b)
not_both true b = refl
not_both false b = refl

module _ {image asked : List ℕ} where
  -- what is told of one list of passes holds of the list that equals it
  pub passed_as : {d : ℕ} {t u m n : List ℕ} {ps qs : List (Pass Cell)} {r : Bool} → ps ≡ qs → Passed image asked d t m qs u n r → Passed image asked d t m ps u n r
  passed_as {d = d} {t = t} {u = u} {m = m} {n = n} {r = r} e p = subst⁻¹ (λ (l : List (Pass Cell)). Passed image asked d t m l u n r) e p

  pub passed_none : {d : ℕ} {t m : List ℕ} → Ready image asked t m → Passed image asked d t m [] t m false
  passed_none {t = t} g =
      record {
        table = same_table (asks asked);
        flag = no_flag (asks asked);
        laid = g.layout;
        kept = λ i l. refl;
        noted = λ e. noted_none (g.sited e);
        spared = λ e. refl;
      }
    where
      same_table : (b : Bool) → t ≡ pick b t (join_all (table_space image) t [])
      same_table true = refl
      same_table false = sym (join_all-nil (table_space image) t)

      no_flag : (b : Bool) → false ≡ pick b (not (all_covered (table_space image) asked [])) (changes_all (table_space image) t [])
      no_flag true = ap not (sym (all_covered-nil (table_space image) asked))
      no_flag false = sym (changes_all-nil (table_space image) t)

  pub passed_then : {d : ℕ} {t u v m n o : List ℕ} {ps qs : List (Pass Cell)} {r s : Bool} → Passed image asked d t m ps u n r → Passed image asked d u n qs v o s
      → Passed image asked d t m (ps ++ qs) v o (r || s)
  passed_then {t = t} {u = u} {v = v} {ps = ps} {qs = qs} {r = r} {s = s} p q =
      record {
        table = both_tables (asks asked) p.table q.table;
        flag = both_flags (asks asked) p.table p.flag q.flag;
        laid = q.laid;
        kept = λ i l. q.kept i l ∙ p.kept i l;
        noted = λ e. noted_then (p.noted e) (q.noted e);
        spared = λ e. q.spared e ∙ p.spared e;
      }
    where
      both_tables : (b : Bool) → u ≡ pick b t (join_all (table_space image) t ps) → v ≡ pick b u (join_all (table_space image) u qs)
          → v ≡ pick b t (join_all (table_space image) t (ps ++ qs))
      both_tables true e f = f ∙ e
      both_tables false e f = f ∙ ap (λ (x : List ℕ). join_all (table_space image) x qs) e ∙ sym (join_all-append (table_space image) t ps qs)

      both_flags : (b : Bool) → u ≡ pick b t (join_all (table_space image) t ps)
          → r ≡ pick b (not (all_covered (table_space image) asked ps)) (changes_all (table_space image) t ps)
          → s ≡ pick b (not (all_covered (table_space image) asked qs)) (changes_all (table_space image) u qs)
          → (r || s) ≡ pick b (not (all_covered (table_space image) asked (ps ++ qs))) (changes_all (table_space image) t (ps ++ qs))
      both_flags true e f g =
          ap₂ (λ (a b : Bool). a || b) f g ∙ not_both (all_covered (table_space image) asked ps) (all_covered (table_space image) asked qs)
          ∙ ap not (sym (all_covered-append (table_space image) asked ps qs))
      both_flags false e f g =
          ap₂ (λ (a b : Bool). a || b) f (g ∙ ap (λ (x : List ℕ). changes_all (table_space image) x qs) e)
          ∙ sym (changes_all-append (table_space image) t ps qs)

  -- what keeps the cells below a depth keeps those below a lower one
  pub passed_higher : {d e : ℕ} {t u m n : List ℕ} {ps : List (Pass Cell)} {r : Bool} → d ≤ e → Passed image asked e t m ps u n r → Passed image asked d t m ps u n r
  passed_higher {d = d} {e = e} h p =
      record {
        table = p.table;
        flag = p.flag;
        laid = p.laid;
        kept = λ i l. let m = mul-le-mul_right (word_count image) h in p.kept i (omega arith);
        noted = p.noted;
        spared = p.spared;
      }

-- ---- one pass
-- where the address is outside the image
pub passed_nowhere : {image asked t m : List ℕ} {d a : ℕ} (facts : List ℕ) → Ready image asked t m → word_count image ≤ a
    → Passed image asked d t m (toward (word_count image) d a facts) t m false
passed_nowhere {image} {a = a} facts g h = rw (le-ltb a (word_count image) h) (passed_none g)

module _ (image asked t m : List ℕ) (d a : ℕ) (facts : List ℕ) (g : Ready image asked t m) (s : d < depths) (f : FineCell (cell_of true facts)) where
  module _ (h : a < word_count image) where
    pub point_inside : point_at (word_count image) d a < depths * word_count image
    point_inside = digits_lt s h

    abbrev joined : Cell
    joined = join_cell (cell_at t (point_at (word_count image) d a)) (cell_of true facts)

    abbrev pass : Pass Cell
    pass = record { target = point_at (word_count image) d a; cell = cell_of true facts }

    -- the table afterwards: as it was, or with the cell joined
    record After (b : Bool) (u : List ℕ) : Type 0 where
      laid : Layout (depths * word_count image) (pick b asked u)
      others : (i : ℕ) → i < depths * word_count image → (i ≡ point_at (word_count image) d a → ⊥) → cell_at (pick b asked u) i ≡ cell_at (pick b asked t) i

    after : {u : List ℕ} (b : Bool) → Layout (depths * word_count image) (pick b asked t)
        → u ≡ pick b t (put_cell t (point_at (word_count image) d a) joined) → After b u
    after true l e = record { laid = l; others = λ i h ne. refl }
    after {u = u} false l e =
        record {
          laid = subst (Layout (depths * word_count image)) (sym e) (put_layout (depths * word_count image) t point joined l point_inside fine);
          others = λ i h ne. ap (λ (x : List ℕ). cell_at x i) e ∙ other_cell (depths * word_count image) t point joined l point_inside fine i h ne;
        }
      where
        point : ℕ
        point = point_at (word_count image) d a

        fine : FineCell joined
        fine = join_fine (cell_at t point) (cell_of true facts) (l.fine point point_inside) f

    pub passed_toward : {u n : List ℕ} {r : Bool} → u ≡ pick (asks asked) t (put_cell t (point_at (word_count image) d a) joined)
        → r ≡ not (holds_cell (cell_at (seen asked t) (point_at (word_count image) d a)) (cell_of true facts)) → (asks asked ≡ false → Noted image t m u n) → (asks asked ≡ true → n ≡ m)
        → Passed image asked d t m (toward (word_count image) d a facts) u n r
    passed_toward {u = u} {r = r} e c told same =
        rw (lt-ltb a (word_count image) h)
        (record {
          table = one_table (asks asked) e;
          flag = one_flag (asks asked) c;
          laid = (after (asks asked) g.layout e).laid;
          kept = λ i l. (after (asks asked) g.layout e).others i (omega (arith, point_inside)) (λ q. omega arith);
          noted = told;
          spared = same;
        })
      where
        one_table : (b : Bool) → u ≡ pick b t (put_cell t (point_at (word_count image) d a) joined) → u ≡ pick b t (join_all (table_space image) t (pass ∷ []))
        one_table true e = e
        one_table false e = e ∙ sym (join_all-one (table_space image) t pass)

        one_flag : (b : Bool) → r ≡ not (holds_cell (cell_at (pick b asked t) (point_at (word_count image) d a)) (cell_of true facts))
            → r ≡ pick b (not (all_covered (table_space image) asked (pass ∷ []))) (changes_all (table_space image) t (pass ∷ []))
        one_flag true c = c ∙ ap not (sym (all_covered-one (table_space image) asked pass))
        one_flag false c = c ∙ sym (changes_all-one (table_space image) t pass)

-- a table in which a cell is put, and which keeps its length, keeps the other cells
put_other : (cells : ℕ) (t : List ℕ) (i : ℕ) (c : Cell) → length t ≡ record_size * cells → length (put_cell t i c) ≡ record_size * cells → i < cells
    → (j : ℕ) → j < cells → (j ≡ i → ⊥) → cell_at (put_cell t i c) j ≡ cell_at t j
unfolding cell_at put_record
put_other cells t i c l k h j hj ne = ap read_cell (put_there t cells i (record_of c 0) l h long j hj ne)
  where
    rest : List ℕ
    rest = drop (record_size * i + record_size) t

    long : length (record_of c 0) ≡ record_size
    long =
        omega (
          arith,
          l,
          k,
          length-append (take (record_size * i) t) (record_of c 0 ++ rest),
          length-take-le (record_size * i) t (omega (arith, l)),
          length-append (record_of c 0) rest,
          length-drop (record_size * i + record_size) t,
        )

-- a pass leaves every cell but its target
pub toward_keeps : (image asked t m : List ℕ) (d a : ℕ) (facts : List ℕ) → Ready image asked t m → d < depths → {u n : List ℕ} {r : Bool}
    → Passed image asked d t m (toward (word_count image) d a facts) u n r
    → (i : ℕ) → i < depths * word_count image → (i ≡ point_at (word_count image) d a → ⊥) → cell_at (seen asked u) i ≡ cell_at (seen asked t) i
toward_keeps image asked t m d a facts g s {u = u} p i l ne = go (ltb a (word_count image)) refl p.table
  where
    pass : Pass Cell
    pass = record { target = point_at (word_count image) d a; cell = cell_of true facts }

    none : (b : Bool) → u ≡ pick b t (join_all (table_space image) t []) → cell_at (pick b asked u) i ≡ cell_at (pick b asked t) i
    none true e = refl
    none false e = ap (λ (x : List ℕ). cell_at x i) (e ∙ join_all-nil (table_space image) t)

    one : a < word_count image → (b : Bool) → Layout (depths * word_count image) (pick b asked t) → Layout (depths * word_count image) (pick b asked u)
        → u ≡ pick b t (join_all (table_space image) t (pass ∷ [])) → cell_at (pick b asked u) i ≡ cell_at (pick b asked t) i
    one h true k v e = refl
    one h false k v e =
        let put = e ∙ join_all-one (table_space image) t pass in
        ap (λ (x : List ℕ). cell_at x i) put
        ∙ put_other (depths * word_count image) t (point_at (word_count image) d a) (join_cell (cell_at t (point_at (word_count image) d a)) (cell_of true facts)) k.long (sym (ap length put) ∙ v.long) (digits_lt s h) i l ne

    go : (b : Bool) → ltb a (word_count image) ≡ b → u ≡ pick (asks asked) t (join_all (table_space image) t (pick b (pass ∷ []) []))
        → cell_at (seen asked u) i ≡ cell_at (seen asked t) i
    go true w e = one (ltb-true a (word_count image) w) (asks asked) g.layout p.laid e
    go false w e = none (asks asked) e

-- ---- passes by a test
pub passed_if : {image asked : List ℕ} {d : ℕ} {t u m n : List ℕ} (b : Bool) (ps : List (Pass Cell)) {r : Bool} → b ≡ true → Passed image asked d t m ps u n r
    → Passed image asked d t m (pick b ps []) u n r
passed_if b ps e p = rw e p

pub passed_not : (image asked : List ℕ) (d : ℕ) (t m : List ℕ) (b : Bool) (ps : List (Pass Cell)) → b ≡ false → Ready image asked t m
    → Passed image asked d t m (pick b ps []) t m false
passed_not image asked d t m b ps e g = rw e (passed_none g)
