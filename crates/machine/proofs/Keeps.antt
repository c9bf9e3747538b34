-- What a step keeps: a well-formed, sized state stays so and its trace record is four bytes; a register that the word
-- does not write keeps its value; the stop number afterwards is the first no. Assumes nothing.
use mathlib.Core.Bool.{true}
use mathlib.Core.List.{List, [], ◌∷◌}
use mathlib.Core.Logic.{inr}
use mathlib.Core.Path.{◌≡◌, refl, sym, ap, ◌∙◌}
use Prim.Native.Nat.{ℕ, zero, suc, ◌+◌, ◌-◌, ◌*◌, ◌<◌, ◌≤◌}
use native.Mathlib.Decide.{ℕ_discrete, dec_lt}
use native.Mathlib.Omega.{arith}
use borrow.Author.Tests.{ltb-true, eqb-true, lt-ltb}
use lib.Dec.{leb, ltb, eqb}
use lib.ListN.{length, get_or, set, length-set}
use lib.Seq.{get_or-set_same, get_or-set_other}
use Rattle.choice.specs.Choice.{first_no}
use Rattle.choice.proofs.Laws.{pick_both, pick_cases, asked_holds, asked_beside}
use Rattle.field.specs.Field.{carry_of, merge_into}
use Rattle.field.proofs.Laws.{rotate_lt, low_lt, field_lt, merge_lt, sum_lt, carry_lt, and_byte, xor_byte}
use Rattle.state.specs.declared.State.{State}
use Rattle.state.specs.State.{overflow_slot, stack_places, EachBelow, Sized, Formed}
use Rattle.machine.specs.Shape.{Source, register, bank, constant, Target, slot, latch, Control, jump, branch, defer, call, return, Shape, act, go, invalid}
use Rattle.machine.specs.Step.{word_count, shape_at, value_of, result_of, with_overflow, put_value, put_latch, in_page, act_state, go_to, defer_to, go_state, executed}
use Rattle.machine.specs.Step.{may_read, may_write, may_choose, may_call, may_return, word_questions, fetch_address, step_questions, stopped, Outcome, target_event, event_of, came_to_stop, word_step, Step, step_from, stepped}
use Rattle.machine.specs.Parts.{IsPage}
use Rattle.machine.proofs.InRange.{SourceInRange, TargetInRange, ControlInRange, ShapeInRange, shape_at_in_range}
use Rattle.machine.proofs.Fetching.{pc_near}

-- ---- lists

-- what holds of an element and of the value that is stored holds of the element afterwards
set_keeps : (P : ℕ → Type 0) (xs : List ℕ) (i v k : ℕ) → P (get_or xs k 0) → P v → P (get_or (set xs i v) k 0)
set_keeps P [] i v k h hv = h
set_keeps P (x ∷ xs) zero v zero h hv = hv
set_keeps P (x ∷ xs) zero v (suc k) h hv = h
set_keeps P (x ∷ xs) (suc i) v zero h hv = h
set_keeps P (x ∷ xs) (suc i) v (suc k) h hv = set_keeps P xs i v k h hv

set_below : {n : ℕ} (xs : List ℕ) (i : ℕ) {v : ℕ} → EachBelow n xs → v < n → EachBelow n (set xs i v)
set_below {n} xs i {v} h hv k = set_keeps (λ (x : ℕ). x < n) xs i v k (h k) hv

four_bytes : {a b c d : ℕ} → a < 256 → b < 256 → c < 256 → d < 256 → EachBelow 256 (a ∷ b ∷ c ∷ d ∷ [])
four_bytes ha hb hc hd zero = ha
four_bytes ha hb hc hd (suc zero) = hb
four_bytes ha hb hc hd (suc (suc zero)) = hc
four_bytes ha hb hc hd (suc (suc (suc zero))) = hd
four_bytes ha hb hc hd (suc (suc (suc (suc k)))) = omega arith

-- ---- sources, results and pages

pub value_lt : (source : Source) (values bus : List ℕ) → SourceInRange source → EachBelow 256 values → EachBelow 256 bus
    → value_of source values bus < 256
value_lt (register k places kept) values bus h hv hb = low_lt kept (rotate_lt places h.1 (hv k))
value_lt (bank b p l) values bus h hv hb = field_lt p l (hb b)
value_lt (constant x) values bus h hv hb = h

pub result_lt : (op : ℕ) {aux x : ℕ} → aux < 256 → x < 256 → result_of op aux x < 256
unfolding result_of
result_lt op {aux} {x} ha hx =
    pick_both Byte (eqb op 0) hx
    (pick_both Byte (eqb op 1) (sum_lt aux x) (pick_both Byte (eqb op 2) (and_byte aux x ha hx) (xor_byte aux x ha hx)))
  where
    Byte : ℕ → Type 0
    Byte n = n < 256

pub page_lt : (page pc x : ℕ) → IsPage page → pc < 8192 → in_page page pc x < 8192
page_lt page pc x h near = either (ℕ_discrete page 256)
  where
    either : Dec (page ≡ 256) → in_page page pc x < 8192
    either (yes e) = rw e (omega arith)
    either (no n) = rw (h n) (omega arith)

-- ---- an act's values

module _ (op : ℕ) {aux x : ℕ} (ha : aux < 256) (hx : x < 256) (values : List ℕ) where
  carried_below : EachBelow 256 values → EachBelow 256 (with_overflow op aux x values)
  unfolding with_overflow
  carried_below h = pick_both (EachBelow 256) (eqb op 1) (set_below values overflow_slot h (omega (arith, carry_lt ha hx))) h

  carried_overflow : get_or values overflow_slot 0 < 2 → get_or (with_overflow op aux x values) overflow_slot 0 < 2
  unfolding with_overflow
  carried_overflow h =
      pick_both (λ (v : List ℕ). get_or v overflow_slot 0 < 2) (eqb op 1)
      (set_keeps (λ (n : ℕ). n < 2) values overflow_slot (carry_of aux x) overflow_slot h (carry_lt ha hx)) h

carried_length : (op aux x : ℕ) (values : List ℕ) → length (with_overflow op aux x values) ≡ length values
unfolding with_overflow
carried_length op aux x values =
    pick_both (λ (v : List ℕ). length v ≡ length values) (eqb op 1) (length-set values overflow_slot (carry_of aux x)) refl

put_below : (target : Target) {result : ℕ} (values : List ℕ) → result < 256 → EachBelow 256 values → EachBelow 256 (put_value target result values)
put_below (slot k) values hr h = set_below values k h hr
put_below (latch b p l) values hr h = h

put_overflow : (target : Target) (result : ℕ) (values : List ℕ) → TargetInRange target → get_or values overflow_slot 0 < 2
    → get_or (put_value target result values) overflow_slot 0 < 2
put_overflow (slot k) result values r h = rw (get_or-set_other values k overflow_slot result 0 (λ e. r.1 (sym e))) h
put_overflow (latch b p l) result values r h = h

put_length : (target : Target) (result : ℕ) (values : List ℕ) → length (put_value target result values) ≡ length values
put_length (slot k) result values = length-set values k result
put_length (latch b p l) result values = refl

latch_below : (target : Target) (result : ℕ) (latches : List ℕ) → TargetInRange target → EachBelow 256 latches → EachBelow 256 (put_latch target result latches)
latch_below (slot k) result latches r h = h
latch_below (latch b p l) result latches r h = set_below latches b h (merge_lt p l result r.1 (h b))

latch_length : (target : Target) (result : ℕ) (latches : List ℕ) → length (put_latch target result latches) ≡ length latches
latch_length (slot k) result latches = refl
latch_length (latch b p l) result latches = length-set latches b (merge_into p l result (get_or latches b 0))

-- ---- the state after a word

-- a state that is well formed and whose numbers fit
pub record Sound (s : State) : Type 0 where
  pub formed : Formed s
  pub sized : Sized s

module _ (s : State) (sound : Sound s) (near : s.pc < 8192) where
  act_sound : (op x : ℕ) (target : Target) → x < 256 → TargetInRange target → Sound (act_state op x target s)
  unfolding act_state
  act_sound op x target hx r =
      let f = sound.formed in
      let z = sound.sized in
      let aux = z.values 0 in
      record {
        formed = record {
          flag = omega arith;
          pc = λ e. omega arith;
          pending = λ e. omega arith;
          idle = λ e. refl;
          overflow = put_overflow target _ _ r (carried_overflow op aux hx s.values f.overflow);
          depth = f.depth;
          used = f.used;
          free = f.free;
          stop = f.stop;
        };
        sized = record {
          pc = omega arith;
          flag = omega arith;
          pending = omega arith;
          values = put_below target _ (result_lt op aux hx) (carried_below op aux hx s.values z.values);
          latches = latch_below target _ s.latches r z.latches;
          depth = z.depth;
          returns = z.returns;
          stop = z.stop;
          values_length = put_length target _ _ ∙ carried_length op _ x s.values ∙ z.values_length;
          latches_length = latch_length target _ s.latches ∙ z.latches_length;
          returns_length = z.returns_length;
        };
      }

  -- on at another PC, with another call stack
  go_sound : (pc depth : ℕ) (returns : List ℕ) → pc < 65536 → depth ≤ stack_places → EachBelow 65536 returns → length returns ≡ stack_places
      → ((k : ℕ) → k < depth → get_or returns k 0 ≤ 8192) → ((k : ℕ) → k < stack_places → depth ≤ k → get_or returns k 0 ≡ 0)
      → Sound (go_to pc depth returns s)
  go_sound pc depth returns hp hd hr hl used free =
      let f = sound.formed in
      let z = sound.sized in
      record {
        formed = record {
          flag = omega arith;
          pc = λ e. omega arith;
          pending = λ e. omega arith;
          idle = λ e. refl;
          overflow = f.overflow;
          depth = hd;
          used = used;
          free = free;
          stop = f.stop;
        };
        sized = record {
          pc = hp;
          flag = omega arith;
          pending = omega arith;
          values = z.values;
          latches = z.latches;
          depth = omega arith;
          returns = hr;
          stop = z.stop;
          values_length = z.values_length;
          latches_length = z.latches_length;
          returns_length = hl;
        };
      }

  -- on at another PC
  stay_sound : (pc : ℕ) → pc < 65536 → Sound (go_to pc s.depth s.returns s)
  stay_sound pc h =
      go_sound pc s.depth s.returns h sound.formed.depth sound.sized.returns sound.sized.returns_length
      sound.formed.used sound.formed.free

  defer_sound : (a : ℕ) → a < 8192 → Sound (defer_to a s)
  defer_sound a h =
      let f = sound.formed in
      let z = sound.sized in
      record {
        formed = record {
          flag = omega arith;
          pc = λ e. near;
          pending = λ e. h;
          idle = λ e. omega arith;
          overflow = f.overflow;
          depth = f.depth;
          used = f.used;
          free = f.free;
          stop = f.stop;
        };
        sized = record {
          pc = z.pc;
          flag = omega arith;
          pending = omega arith;
          values = z.values;
          latches = z.latches;
          depth = z.depth;
          returns = z.returns;
          stop = z.stop;
          values_length = z.values_length;
          latches_length = z.latches_length;
          returns_length = z.returns_length;
        };
      }

  -- PC + 1 pushed
  call_sound : (pc : ℕ) → pc < 65536 → s.depth < stack_places → Sound (go_to pc (s.depth + 1) (set s.returns s.depth (s.pc + 1)) s)
  call_sound pc hp hd =
      go_sound pc (s.depth + 1) (set s.returns s.depth (s.pc + 1)) hp (omega arith)
      (set_below s.returns s.depth sound.sized.returns (omega arith))
      (length-set s.returns s.depth (s.pc + 1) ∙ sound.sized.returns_length)
      (λ k h. set_keeps (λ (n : ℕ). n ≤ 8192) s.returns s.depth (s.pc + 1) k (small k (omega arith) (dec_lt k s.depth)) (omega arith))
      (λ k h l. get_or-set_other s.returns s.depth k (s.pc + 1) 0 (λ e. omega arith) ∙ sound.formed.free k h (omega arith))
    where
      small : (k : ℕ) → k < stack_places → Dec (k < s.depth) → get_or s.returns k 0 ≤ 8192
      small k h (yes l) = sound.formed.used k l
      small k h (no n) = omega (arith, sound.formed.free k h (omega arith))

  -- the popped place zeroed
  return_sound : 0 < s.depth → Sound (go_to (get_or s.returns (s.depth - 1) 0) (s.depth - 1) (set s.returns (s.depth - 1) 0) s)
  return_sound hd =
      go_sound (get_or s.returns (s.depth - 1) 0) (s.depth - 1) (set s.returns (s.depth - 1) 0)
      (sound.sized.returns (s.depth - 1)) (omega (arith, sound.formed.depth))
      (set_below s.returns (s.depth - 1) sound.sized.returns (omega arith))
      (length-set s.returns (s.depth - 1) 0 ∙ sound.sized.returns_length)
      (λ k h. set_keeps (λ (n : ℕ). n ≤ 8192) s.returns (s.depth - 1) 0 k (sound.formed.used k (omega arith)) (omega arith))
      (λ k h l. zeroed k h l (ℕ_discrete k (s.depth - 1)))
    where
      zeroed : (k : ℕ) → k < stack_places → s.depth - 1 ≤ k → Dec (k ≡ s.depth - 1) → get_or (set s.returns (s.depth - 1) 0) k 0 ≡ 0
      zeroed k h l (yes e) = rw e (get_or-set_same s.returns (s.depth - 1) 0 0 (omega (arith, sound.sized.returns_length)))
      zeroed k h l (no n) = get_or-set_other s.returns (s.depth - 1) k 0 0 n ∙ sound.formed.free k h (omega arith)

  directed_sound : (source : Source) (control : Control) (x : ℕ) → x < 256 → ControlInRange source control → may_call control s.depth ≡ true
      → may_return control s.depth ≡ true → Sound (go_state control x s)
  unfolding go_state
  directed_sound source (jump a) x hx r c d = stay_sound a (omega arith)
  directed_sound source (branch page i) x hx r c d =
      stay_sound _ (pick_both (λ (n : ℕ). n < 65536) (eqb x 0) (omega arith) (omega (arith, page_lt page s.pc i r.0 near)))
  directed_sound source (defer page i) x hx r c d = defer_sound _ (page_lt page s.pc (i + x) r.0 near)
  directed_sound source (call i) x hx r c d = call_sound (x * 256 + i) (omega arith) (ltb-true s.depth stack_places c)
  directed_sound source return x hx r c d = return_sound (ltb-true 0 s.depth d)

stop_sound : (s : State) (number : ℕ) → Sound s → 21 ≤ number → number ≤ 27 → Sound (stopped s number)
stop_sound s number sound low high =
    let f = sound.formed in
    let z = sound.sized in
    record {
      formed = record {
        flag = f.flag;
        pc = f.pc;
        pending = f.pending;
        idle = f.idle;
        overflow = f.overflow;
        depth = f.depth;
        used = f.used;
        free = f.free;
        stop = inr (low, high);
      };
      sized = record {
        pc = z.pc;
        flag = z.flag;
        pending = z.pending;
        values = z.values;
        latches = z.latches;
        depth = z.depth;
        returns = z.returns;
        stop = omega arith;
        values_length = z.values_length;
        latches_length = z.latches_length;
        returns_length = z.returns_length;
      };
    }

-- ---- a step

-- four bytes tell what a word does
target_long : (target : Target) (s : State) → length (target_event target s) ≡ 4
target_long (slot k) s = pick_both (λ (t : List ℕ). length t ≡ 4) (leb 9 k) refl refl
target_long (latch b p l) s = refl

event_long : (shape : Shape) (s : State) → length (event_of shape s) ≡ 4
event_long (act source op target) s = target_long target s
event_long (go source control) s = refl
event_long invalid s = refl

pub step_event_long : (image map bus : List ℕ) (s : State) → length (stepped image map bus s).event ≡ 4
unfolding stepped
step_event_long image map bus s =
    asked_holds (λ (o : Outcome). length o.event ≡ 4) (step_questions image map bus s) {refuse = came_to_stop s}
    (event_long (shape_at image (fetch_address s)) _) (λ n. refl)

-- a sound state and four bytes
pub record SoundOutcome (o : Outcome) : Type 0 where
  pub state : Sound o.state
  pub bytes : EachBelow 256 o.event
  pub long : length o.event ≡ 4

-- what a step's word does
abbrev pub outcome_of : Step → Outcome
outcome_of o = record { state = o.state; event = o.event }

stopped_outcome : (s : State) (number : ℕ) → Sound s → 21 ≤ number → number ≤ 27 → SoundOutcome (came_to_stop s number)
stopped_outcome s number sound low high =
    record {
      state = stop_sound s number sound low high;
      bytes = four_bytes (omega arith) (omega arith) (omega arith) (omega arith);
      long = refl;
    }

quiet_outcome : (s : State) → Sound s → SoundOutcome (record { state = s; event = 0 ∷ 0 ∷ 0 ∷ 0 ∷ [] })
quiet_outcome s sound =
    record {
      state = sound;
      bytes = four_bytes (omega arith) (omega arith) (omega arith) (omega arith);
      long = refl;
    }

target_outcome : (target : Target) (s : State) → TargetInRange target → Sound s → SoundOutcome (record { state = s; event = target_event target s })
target_outcome (slot k) s r sound =
    pick_both (λ (t : List ℕ). SoundOutcome (record { state = s; event = t })) (leb 9 k)
    (record {
      state = sound;
      bytes = four_bytes (omega arith) (sound.sized.values k) (omega arith) (omega arith);
      long = refl;
    })
    (quiet_outcome s sound)
target_outcome (latch b p l) s r sound =
    record {
      state = sound;
      bytes = four_bytes (omega arith) (sound.sized.values (9 + b)) (sound.sized.latches b) (omega arith);
      long = refl;
    }

pub word_sound : (map : List ℕ) (shape : Shape) (bus : List ℕ) (s : State) → ShapeInRange shape → EachBelow 256 bus → Sound s → s.pc < 8192
    → SoundOutcome (word_step map shape bus s)
word_sound map (act source op target) bus s r hb sound near =
    let x = value_lt source s.values bus r.0 sound.sized.values hb in
    pick_both SoundOutcome (may_read map source s.values)
    (pick_both SoundOutcome (may_write map target s.values)
    (pick_both SoundOutcome (may_choose map target (result_of op (get_or s.values 0 0) (value_of source s.values bus)))
    (target_outcome target _ r.1 (act_sound s sound near op _ target x r.1))
    (stopped_outcome s 25 sound (omega arith) (omega arith)))
    (stopped_outcome s 24 sound (omega arith) (omega arith)))
    (stopped_outcome s 23 sound (omega arith) (omega arith))
word_sound map (go source control) bus s r hb sound near =
    let x = value_lt source s.values bus r.0 sound.sized.values hb in
    pick_both SoundOutcome (may_read map source s.values)
    (pick_cases SoundOutcome (may_call control s.depth)
    (λ c. pick_cases SoundOutcome (may_return control s.depth)
    (λ d. quiet_outcome _ (directed_sound s sound near source control _ x r.1 c d))
    (λ _. stopped_outcome s 27 sound (omega arith) (omega arith)))
    (λ _. stopped_outcome s 26 sound (omega arith) (omega arith)))
    (stopped_outcome s 23 sound (omega arith) (omega arith))
word_sound map invalid bus s r hb sound near = stopped_outcome s 22 sound (omega arith) (omega arith)

-- a word that is fetched inside an image of at most 8,192 words is executed at such a PC
pub fetched_near : (s : State) {words : ℕ} → Formed s → words ≤ 8192 → fetch_address s < words → s.pc < 8192
fetched_near s f hw h = pc_near s.flag s.pending s.pc (omega arith) f.pc

pub step_sound : (image map bus : List ℕ) (s : State) → word_count image ≤ 8192 → EachBelow 256 image → EachBelow 256 bus → Sound s
    → SoundOutcome (outcome_of (stepped image map bus s))
unfolding stepped
step_sound image map bus s hw hi hb sound =
    pick_cases SoundOutcome (ltb (fetch_address s) (word_count image))
    (λ e. word_sound map (shape_at image (fetch_address s)) bus s (shape_at_in_range image hi (fetch_address s)) hb sound
    (fetched_near s sound.formed hw (ltb-true (fetch_address s) (word_count image) e)))
    (λ _. stopped_outcome s 21 sound (omega arith) (omega arith))

-- where the fetch address is inside the image, a step executes the word there
pub step_word : (image map bus : List ℕ) (s : State) → fetch_address s < word_count image
    → stepped image map bus s ≡ step_from s (word_step map (shape_at image (fetch_address s)) bus s)
unfolding stepped
step_word image map bus s h = rw (lt-ltb (fetch_address s) (word_count image) h)

-- a step keeps a state well formed and its numbers to their bytes
pub step_formed : (image map bus : List ℕ) (s : State) → word_count image ≤ 8192 → EachBelow 256 image → EachBelow 256 bus → Formed s → Sized s
    → Formed (stepped image map bus s).state × Sized (stepped image map bus s).state
step_formed image map bus s hw hi hb f z =
    let o = step_sound image map bus s hw hi hb (record { formed = f; sized = z }) in
    (o.state.formed, o.state.sized)

-- ---- values

carried_other : (op aux x : ℕ) (values : List ℕ) (j : ℕ) → (op ≡ 1 → j ≡ overflow_slot → ⊥)
    → get_or (with_overflow op aux x values) j 0 ≡ get_or values j 0
unfolding with_overflow
carried_other op aux x values j quiet =
    pick_cases (λ (v : List ℕ). get_or v j 0 ≡ get_or values j 0) (eqb op 1)
    (λ e. get_or-set_other values overflow_slot j (carry_of aux x) 0 (quiet (eqb-true op 1 e))) (λ _. refl)

put_other : (target : Target) (result : ℕ) (values : List ℕ) (j : ℕ) → (target ≡ slot j → ⊥)
    → get_or (put_value target result values) j 0 ≡ get_or values j 0
put_other (slot k) result values j other = get_or-set_other values k j result 0 (λ e. other (ap slot (sym e)))
put_other (latch b p l) result values j other = refl

directed_values : (control : Control) (x : ℕ) (s : State) → (go_state control x s).values ≡ s.values
unfolding go_state
directed_values (jump a) x s = refl
directed_values (branch page i) x s = refl
directed_values (defer page i) x s = refl
directed_values (call i) x s = refl
directed_values return x s = refl

-- a register that is neither the word's target nor, of an ADD, OVF keeps its value
pub keeps_value : (map bus : List ℕ) (source : Source) (op : ℕ) (target : Target) (s : State) (j : ℕ)
    → (target ≡ slot j → ⊥) → (op ≡ 1 → j ≡ overflow_slot → ⊥)
    → get_or (word_step map (act source op target) bus s).state.values j 0 ≡ get_or s.values j 0
unfolding act_state
keeps_value map bus source op target s j other quiet =
    asked_holds (λ (o : Outcome). get_or o.state.values j 0 ≡ get_or s.values j 0) (word_questions map (act source op target) bus s) {refuse = came_to_stop s}
    (put_other target _ _ j other ∙ carried_other op _ _ s.values j quiet) (λ n. refl)

-- a word that directs PC keeps every value
pub keeps_values : (map bus : List ℕ) (source : Source) (control : Control) (s : State)
    → (word_step map (go source control) bus s).state.values ≡ s.values
keeps_values map bus source control s =
    asked_holds (λ (o : Outcome). o.state.values ≡ s.values) (word_questions map (go source control) bus s) {refuse = came_to_stop s}
    (directed_values control _ s) (λ n. refl)

-- ---- the stop number

directed_stop : (control : Control) (x : ℕ) (s : State) → (go_state control x s).stop ≡ s.stop
unfolding go_state
directed_stop (jump a) x s = refl
directed_stop (branch page i) x s = refl
directed_stop (defer page i) x s = refl
directed_stop (call i) x s = refl
directed_stop return x s = refl

executed_stop : (shape : Shape) (bus : List ℕ) (s : State) → (executed shape bus s).stop ≡ s.stop
unfolding act_state
executed_stop (act source op target) bus s = refl
executed_stop (go source control) bus s = directed_stop control _ s
executed_stop invalid bus s = refl

-- the stop number afterwards is the first no, or 0 where every answer is yes
pub stop_is_first_no : (image map bus : List ℕ) (s : State) → s.stop ≡ 0
    → (stepped image map bus s).state.stop ≡ first_no (step_questions image map bus s)
unfolding stepped
stop_is_first_no image map bus s h =
    asked_beside (λ (o : Outcome) (n : ℕ). o.state.stop ≡ n) (step_questions image map bus s)
    (executed_stop (shape_at image (fetch_address s)) bus s ∙ h) (λ n. refl)

-- a step whose every answer is yes runs on
pub keeps_running : (image map bus : List ℕ) (s : State) → s.stop ≡ 0 → first_no (step_questions image map bus s) ≡ 0
    → (stepped image map bus s).state.stop ≡ 0
keeps_running image map bus s h none = stop_is_first_no image map bus s h ∙ none
