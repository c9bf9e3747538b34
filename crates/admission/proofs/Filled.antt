-- The table that admission fills, and when it admits. Assumes nothing.
use mathlib.Core.Bool.{Bool, true, false}
use mathlib.Core.List.{List}
use mathlib.Core.Path.{◌≡◌, refl, sym, ap, ◌∙◌, subst⁻¹}
use Prim.Native.Nat.{ℕ, ◌+◌, ◌*◌, ◌<◌}
use native.Mathlib.Omega.{arith}
use lib.Dec.{eqb}
use lib.ListN.{length, get_or}
use borrow.Author.Tests.{eqb-true, ltb-true, lt-ltb}
use Rattle.choice.specs.Choice.{pick}
use Rattle.map.specs.Map.{map_length}
use Rattle.machine.specs.Step.{word_count}
use Rattle.emulator.specs.Run.{image_fits}
use Rattle.emulator.proofs.Door.{image_some}
use Rattle.facts.specs.Record.{record_size, depths, record_of, cell_at, FineCell, Layout}
use Rattle.facts.proofs.Records.{part, part_at, same_table}
use Rattle.transfer.specs.Passes.{table_length, least_table, sweeps_of}
use Rattle.transfer.specs.Findings.{finding_at, NoFinding}
use Rattle.transfer.proofs.TableLaws.{least_table_lem}
use Rattle.admission.specs.Admission.{AdmitAnswer}
use Rattle.admission.specs.Admission.{Refused, Admitted}
use Rattle.admission.specs.Admission.{filled_table, verdict_of, AdmitResult, resulting, admit_result, Cleared}
use Rattle.admission.proofs.Same.{SameCells, finding_same}
use Rattle.admission.proofs.Marking.{Marking, marked_all}
use Rattle.admission.proofs.Verdict.{clear_admitted, admitted_clear}
use Rattle.admission.proofs.Opening.{let_in_lem}

-- ---- the table: the cells of the least table, and each record with its finding

module _ (image map : List ℕ) (bytes : (k : ℕ) → get_or image k 0 < 256) (some : 0 < word_count image) where
  least : Layout (depths * word_count image) (least_table image)
  least = (least_table_lem image bytes some).good

  filled : Marking image map (least_table image) (depths * word_count image) (filled_table image map)
  unfolding filled_table
  filled = marked_all image map (least_table image) least.fine least.long

  pub filled_cells : SameCells image (filled_table image map) (least_table image)
  filled_cells = filled.cells

  pub filled_record : (i : ℕ) → i < depths * word_count image
      → part (filled_table image map) i ≡ record_of (cell_at (least_table image) i) (finding_at image map (least_table image) i)
  filled_record i l = filled.told i l

  -- byte 1 of a record is the finding
  pub filled_byte : (i : ℕ) → i < depths * word_count image
      → get_or (filled_table image map) (record_size * i + 1) 0 ≡ finding_at image map (least_table image) i
  unfolding record_of
  filled_byte i l =
      sym (part_at (filled_table image map) i 1 (omega arith)) ∙ ap (λ (b : List ℕ). get_or b 1 0) (filled_record i l)

  -- the findings are the same over either table
  pub filled_finding : (i : ℕ) → i < depths * word_count image
      → finding_at image map (filled_table image map) i ≡ finding_at image map (least_table image) i
  filled_finding i l = finding_same image map (filled_table image map) (least_table image) filled_cells i l

  pub filled_clear : NoFinding image map (filled_table image map) → NoFinding image map (least_table image)
  filled_clear clear = record { none = λ i l. sym (filled_finding i (ltb-true i _ l)) ∙ clear.none i l }

  -- with no finding it is the least table, byte for byte
  pub clear_filled : NoFinding image map (least_table image) → filled_table image map ≡ least_table image
  clear_filled clear =
      same_table (depths * word_count image) (filled_table image map) (least_table image)
      (record {
        long = filled.long;
        records = λ i l. filled_record i l
            ∙ (λ k. record_of (sym (filled_cells.same i l) k) (clear.none i (lt-ltb i (depths * word_count image) l) k));
        fine = λ i l. subst⁻¹ FineCell (filled_cells.same i l) (least.fine i l);
      })
      least filled_cells.same

-- ---- admitted exactly where the door questions get yes and no cell of the least table has a finding

pub cleared_admitted : (image map table : List ℕ) → Cleared image map table → admit_result image map table ≡ resulting Admitted (sweeps_of image) (filled_table image map)
cleared_admitted image map table c =
    let_in_lem image map table (record { fits = c.fits; long = c.long; room = c.room })
    ∙ ap (λ (a : AdmitAnswer). resulting a (sweeps_of image) (filled_table image map)) (clear_admitted image map (least_table image) c.clear)

pub admitted_cleared : (image map table : List ℕ) → (admit_result image map table).answer ≡ Admitted → Cleared image map table
unfolding admit_result
admitted_cleared image map table h = go (image_fits image) refl (eqb (length map) map_length) refl (eqb (length table) (table_length image)) refl h
  where
    go : (a : Bool) → image_fits image ≡ a → (b : Bool) → eqb (length map) map_length ≡ b → (c : Bool) → eqb (length table) (table_length image) ≡ c
        → (pick a (pick b (pick c (resulting (verdict_of image map (least_table image)) (sweeps_of image) (filled_table image map)) (resulting (Refused 13) 0 table)) (resulting (Refused 12) 0 table)) (resulting (Refused 11) 0 table)).answer ≡ Admitted
        → Cleared image map table
    go false ea b eb c ec e = absurd (let z : ◌≡◌ {A = ℕ} 0 1 = cc in omega arith)
    go true ea false eb c ec e = absurd (let z : ◌≡◌ {A = ℕ} 0 1 = cc in omega arith)
    go true ea true eb false ec e = absurd (let z : ◌≡◌ {A = ℕ} 0 1 = cc in omega arith)
    go true ea true eb true ec e =
        record {
          fits = ea;
          long = eqb-true (length map) map_length eb;
          room = eqb-true (length table) (table_length image) ec;
          clear = admitted_clear image map (least_table image) e;
        }

-- the table is then the least table, whatever it held
pub admitted_table : (image map table : List ℕ) → ((k : ℕ) → get_or image k 0 < 256) → (admit_result image map table).answer ≡ Admitted
    → (admit_result image map table).table ≡ least_table image
admitted_table image map table bytes h =
    let c = admitted_cleared image map table h in
    ap (λ (r : AdmitResult). r.table) (cleared_admitted image map table c)
    ∙ clear_filled image map bytes (image_some image c.fits) c.clear
