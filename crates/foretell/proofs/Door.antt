-- What the code of foretelling answers is the definition's answer: a law for each way out. Assumes nothing.
use mathlib.Core.Bool.{true, false}
use mathlib.Core.List.{List, [], ◌∷◌}
use mathlib.Core.Path.{◌≡◌}
use Prim.Native.Nat.{ℕ, ◌*◌, ◌/◌}
use native.Mathlib.Omega.{arith}
use lib.ListN.{length}
use Rattle.emulator.specs.Run.{image_fits}
use Rattle.transfer.specs.Passes.{table_length, sweep_bound}
use Rattle.foretell.specs.Foretell.{Refused, Foretold}
use Rattle.foretell.specs.Foretell.{foretold, foretold_numbers, foretelling}

module _ (image : List ℕ) where
  pub refused_11 : image_fits image ≡ false → (Refused ≡ foretold image) × (foretold_numbers Refused ≡ foretelling image)
  unfolding foretold foretelling
  refused_11 h = (rw h, rw h)

  pub tells : image_fits image ≡ true
      → (Foretold (length image / 2 * 144) (length image / 2 * 108) ≡ foretold image)
      × (foretold_numbers (Foretold (length image / 2 * 144) (length image / 2 * 108)) ≡ foretelling image)
  unfolding foretold foretelling
  tells h =
      let long : length image / 2 * 144 ≡ table_length image = omega arith in
      let most : length image / 2 * 108 ≡ sweep_bound image = omega arith in
      (rw h (λ k. Foretold (long k) (most k)), rw h (λ k. 0 ∷ long k ∷ most k ∷ []))
