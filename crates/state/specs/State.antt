-- The state ("The state" of document 01): by value a struct, lent as 36 bytes.
-- Its eleven values stand in the order of the eleven facts: AUX, R1-R6, R11, OVF, left address, right address.
use Rattle.std.specs.Prelude.{Bool, true, ◌&&◌, ◌||◌, ◌⊎◌, ◌≡◌, List, [], ◌∷◌, ◌++◌, ℕ, zero, suc, ◌+◌, ◌*◌, ◌/◌, ◌%◌, ◌≤◌, ◌<◌, leb, ltb, eqb, length, get_or, replicate, Result, Ok, Err, ⊤}
use Rattle.choice.specs.Choice.{pick}
use Rattle.state.specs.declared.State.{State}
use Rattle.refusal.specs.declared.Refusal.{Refusal}
use Rattle.refusal.specs.Refusal.{refusal_number}

-- "36 bytes"
abbrev pub state_length : ℕ
state_length = 36

-- places of the call stack: "eight return addresses"
abbrev pub stack_places : ℕ
stack_places = 8

-- the slot of OVF, and of a bank's bus address (bank 0 left, 1 right), among the eleven values
abbrev pub overflow_slot : ℕ
overflow_slot = 8

abbrev pub address_slot : ℕ → ℕ
address_slot bank = 9 + bank

-- n bytes from a place on
abbrev pub bytes_from : List ℕ → ℕ → ℕ → List ℕ
bytes_from bytes at zero = []
bytes_from bytes at (suc n) = get_or bytes at 0 ∷ bytes_from bytes (suc at) n

-- "numbers of two bytes low byte first"
abbrev pub number_at : List ℕ → ℕ → ℕ
number_at bytes at = get_or bytes at 0 + 256 * get_or bytes (suc at) 0

abbrev pub numbers_from : List ℕ → ℕ → ℕ → List ℕ
numbers_from bytes at zero = []
numbers_from bytes at (suc n) = number_at bytes at ∷ numbers_from bytes (suc (suc at)) n

-- PC (2), pending flag (1), pending address (2), AUX, R1-R6, R11 (8), OVF (1), left and right bus address (2),
-- left and right latch (2), depth (1), eight return addresses, oldest first (16), stop number (1)
unfoldable pub loaded : List ℕ → State
loaded bytes =
    record {
      pc = number_at bytes 0;
      flag = get_or bytes 2 0;
      pending = number_at bytes 3;
      values = bytes_from bytes 5 11;
      latches = bytes_from bytes 16 2;
      depth = get_or bytes 18 0;
      returns = numbers_from bytes 19 8;
      stop = get_or bytes 35 0;
    }

-- a number as two bytes, low byte first
abbrev pub two_bytes : ℕ → List ℕ
two_bytes n = n % 256 ∷ n / 256 % 256 ∷ []

abbrev pub pairs_from : List ℕ → ℕ → ℕ → List ℕ
pairs_from ns at zero = []
pairs_from ns at (suc n) = get_or ns at 0 % 256 ∷ get_or ns at 0 / 256 % 256 ∷ pairs_from ns (suc at) n

-- the state as 36 bytes, in the same order
unfoldable pub stored : State → List ℕ
stored s =
    two_bytes s.pc ++ (s.flag % 256 ∷ []) ++ two_bytes s.pending ++ bytes_from s.values 0 11 ++ bytes_from s.latches 0 2 ++
    (s.depth % 256 ∷ []) ++ pairs_from s.returns 0 8 ++ (s.stop % 256 ∷ [])

-- each number of a list is below n
abbrev pub EachBelow : ℕ → List ℕ → Type 0
EachBelow n numbers = (k : ℕ) → get_or numbers k 0 < n

-- numbers that fit their bytes, lists of their lengths
pub record Sized (s : State) : Type 0 where
  pub pc : s.pc < 65536
  pub flag : s.flag < 256
  pub pending : s.pending < 65536
  pub values : EachBelow 256 s.values
  pub latches : EachBelow 256 s.latches
  pub depth : s.depth < 256
  pub returns : EachBelow 65536 s.returns
  pub stop : s.stop < 256
  pub values_length : length s.values ≡ 11
  pub latches_length : length s.latches ≡ 2
  pub returns_length : length s.returns ≡ stack_places

-- flag is 0 or 1; with the flag, PC and pending address are below 8,192; without it the pending address is 0
abbrev pub flag_fits : ℕ → ℕ → ℕ → Bool
flag_fits flag pc pending = pick (eqb flag 0) (eqb pending 0) (eqb flag 1 && (ltb pc 8192 && ltb pending 8192))

-- return addresses up to depth are at most 8,192 and the rest 0
abbrev pub place_fits : ℕ → ℕ → ℕ → Bool
place_fits depth place r = pick (ltb place depth) (leb r 8192) (eqb r 0)

-- the first n places of the stack
abbrev pub stack_fits : ℕ → List ℕ → ℕ → Bool
stack_fits depth returns zero = true
stack_fits depth returns (suc n) = stack_fits depth returns n && place_fits depth n (get_or returns n 0)

-- stop is 0 or 21-27
abbrev pub is_stop : ℕ → Bool
is_stop n = eqb n 0 || (leb 21 n && leb n 27)

-- "Well formed"; OVF is 0 or 1; depth at most 8
unfoldable pub well_formed : State → Bool
well_formed s =
    (flag_fits s.flag s.pc s.pending && ltb (get_or s.values overflow_slot 0) 2) &&
    ((leb s.depth stack_places && stack_fits s.depth s.returns stack_places) && is_stop s.stop)

-- what well formed says: flag and OVF are 0 or 1; with the flag, PC and pending address are below 8,192; without it
-- the pending address is 0; depth at most 8; return addresses up to depth are at most 8,192 and the rest 0;
-- stop is 0 or 21-27
pub record Formed (s : State) : Type 0 where
  pub flag : s.flag < 2
  pub pc : s.flag ≡ 1 → s.pc < 8192
  pub pending : s.flag ≡ 1 → s.pending < 8192
  pub idle : s.flag ≡ 0 → s.pending ≡ 0
  pub overflow : get_or s.values overflow_slot 0 < 2
  pub depth : s.depth ≤ stack_places
  pub used : (k : ℕ) → k < s.depth → get_or s.returns k 0 ≤ 8192
  pub free : (k : ℕ) → k < stack_places → s.depth ≤ k → get_or s.returns k 0 ≡ 0
  pub stop : (s.stop ≡ 0) ⊎ ((21 ≤ s.stop) × (s.stop ≤ 27))

-- "Reset makes all 36 zero"
abbrev pub reset_bytes : List ℕ
reset_bytes = replicate state_length 0

-- the same by value: everything zero
abbrev pub zero_state : State
zero_state =
    record {
      pc = 0;
      flag = 0;
      pending = 0;
      values = replicate 11 0;
      latches = replicate 2 0;
      depth = 0;
      returns = replicate stack_places 0;
      stop = 0;
    }

-- reset puts question 14 for its length alone: its answer, and the bytes afterwards
unfoldable pub reset_answer_of : List ℕ → Result ⊤ Refusal
reset_answer_of bytes = pick (eqb (length bytes) state_length) (Ok tt) (Err Refusal.State)

unfoldable pub reset_state : List ℕ → List ℕ
reset_state bytes = pick (eqb (length bytes) state_length) reset_bytes bytes

-- The paper's number for each case: 0, or 14.
abbrev pub reset_number : Result ⊤ Refusal → ℕ
reset_number (Ok done) = 0
reset_number (Err refusal) = refusal_number refusal

-- Reset, in the paper's numbers.
unfoldable pub reset_number_of : List ℕ → ℕ
reset_number_of bytes = pick (eqb (length bytes) state_length) 0 14
