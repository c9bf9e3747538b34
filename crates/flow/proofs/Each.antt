-- A property of each element of a list.
use mathlib.Core.List.{List, [], ◌∷◌, ◌++◌}

module _ {A : Type 0} where
  pub data Each (P : A → Type 0) : List A → Type 0 where
    none : Each P []
    also : {x : A} {xs : List A} → P x → Each P xs → Each P (x ∷ xs)

  pub each_all : {P : A → Type 0} → ((x : A) → P x) → (xs : List A) → Each P xs
  each_all f [] = none
  each_all f (x ∷ xs) = also (f x) (each_all f xs)

  pub each_append : {P : A → Type 0} {xs ys : List A} → Each P xs → Each P ys → Each P (xs ++ ys)
  each_append none e = e
  each_append (also p d) e = also p (each_append d e)

  pub each_map : {P Q : A → Type 0} {xs : List A} → ((x : A) → P x → Q x) → Each P xs → Each Q xs
  each_map f none = none
  each_map f (also p d) = also (f _ p) (each_map f d)

  pub each_left : {P : A → Type 0} (xs ys : List A) → Each P (xs ++ ys) → Each P xs
  each_left [] ys e = none
  each_left (x ∷ xs) ys (also p e) = also p (each_left xs ys e)

  pub each_right : {P : A → Type 0} (xs ys : List A) → Each P (xs ++ ys) → Each P ys
  each_right [] ys e = e
  each_right (x ∷ xs) ys (also p e) = each_right xs ys e
