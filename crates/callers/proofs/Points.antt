-- The place of a cell in the table, depth × N + address: inside the table, and its depth and address from it.
use mathlib.Core.Path.{◌≡◌, ap, ◌∙◌}
use Prim.Native.Nat.{ℕ, ◌+◌, ◌*◌, ◌/◌, ◌%◌, ◌≤◌, ◌<◌}
use native.Mathlib.Nat.{mul-le-mul, le_refl, add-mul-mod_self_right, mul-add-div_right, div-eq_of_lt, mod-eq_of_lt}
use native.Mathlib.Omega.{arith}

module _ (n depth a : ℕ) (h : a < n) where
  -- the cells of the depths up to this one
  pub point_below : depth * n + a < (depth + 1) * n
  point_below = omega arith

  pub point_inside : depth < 9 → depth * n + a < 9 * n
  point_inside l =
      let most : (depth + 1) * n ≤ 9 * n = mul-le-mul (omega (arith, l)) (le_refl n) in
      omega (arith, point_below, most)

  pub point_small : depth < 9 → n ≤ 8192 → depth * n + a < 73728
  point_small l m = omega (arith, point_inside l, m)

  pub point_depth : (depth * n + a) / n ≡ depth
  point_depth = mul-add-div_right {m = n} (omega arith) depth a ∙ ap (λ q. depth + q) (div-eq_of_lt h) ∙ omega arith

  pub point_address : (depth * n + a) % n ≡ a
  point_address = ap (λ m. m % n) {x = depth * n + a} {y = a + depth * n} (omega arith) ∙ add-mul-mod_self_right a depth n ∙ mod-eq_of_lt h

-- ---- the next cell, in table order
