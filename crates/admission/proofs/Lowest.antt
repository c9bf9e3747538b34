-- The lowest finding, whatever gives the findings: there is one only, and so only one answer names it. Assumes nothing.
use mathlib.Core.Path.{◌≡◌, refl, sym, ◌∙◌, ap, subst⁻¹}
use mathlib.Core.Logic.{◌≢◌}
use Prim.Native.Nat.{ℕ, ◌<◌}
use native.Mathlib.Decide.{dec_lt}
use native.Mathlib.Omega.{arith}
use Rattle.facts.specs.Record.{depths}
use Rattle.admission.specs.Admission.{AdmitAnswer}
use Rattle.admission.specs.Admission.{Refused, Admitted, Found}
use Rattle.admission.specs.Lowest.{Clear, Lowest}

-- two numbers, neither of which is below the other
same_unless_below : {x y : ℕ} → (x < y → ⊥) → (y < x → ⊥) → x ≡ y
same_unless_below {x} {y} p q = by (dec_lt x y) (dec_lt y x)
  where
    by : Dec (x < y) → Dec (y < x) → x ≡ y
    by (yes l) _ = absurd (p l)
    by (no _) (yes l) = absurd (q l)
    by (no m) (no n) = omega arith

module _ {words : ℕ} {finding : ℕ → ℕ → ℕ} {number depth address : ℕ} (l : Lowest words finding number depth address) where
  -- its cell has a finding
  pub lowest_some : finding depth address ≢ 0
  lowest_some z = l.some (sym l.here ∙ z)

  pub lowest_not_clear : Clear words finding → ⊥
  lowest_not_clear clear = lowest_some (clear depth address l.deep l.near)

  -- it depends on the findings alone
  pub lowest_same : {other : ℕ → ℕ → ℕ} → ((d a : ℕ) → d < depths → a < words → other d a ≡ finding d a) → Lowest words other number depth address
  lowest_same same =
      record {
        deep = l.deep;
        near = l.near;
        here = same depth address l.deep l.near ∙ l.here;
        some = l.some;
        shallower = λ d a less near. same d a (let deep = l.deep in omega arith) near ∙ l.shallower d a less near;
        before = λ a less. same depth a l.deep (let near = l.near in omega arith) ∙ l.before a less;
      }

-- there is one only
module _ {words : ℕ} {finding : ℕ → ℕ → ℕ} where
  pub lowest_one : {n d a m e b : ℕ} → Lowest words finding n d a → Lowest words finding m e b → Found n d a ≡ Found m e b
  lowest_one {n} {d} {a} {m} {e} {b} l r =
      let deep : d ≡ e = same_unless_below (λ h. lowest_some l (r.shallower d a h l.near)) (λ h. lowest_some r (l.shallower e b h r.near)) in
      at deep (subst⁻¹ (λ (x : ℕ). Lowest words finding m x b) deep r)
    where
      at : d ≡ e → Lowest words finding m d b → Found n d a ≡ Found m e b
      at deep s =
          let near : a ≡ b = same_unless_below (λ h. lowest_some l (s.before a h)) (λ h. lowest_some s (l.before b h)) in
          let told : n ≡ m = sym l.here ∙ ap (finding d) near ∙ s.here in
          λ k. Found (told k) (deep k) (near k)

-- an answer past the door: admitted where there is no finding, else the lowest is named
abbrev pub Names : ℕ → (ℕ → ℕ → ℕ) → AdmitAnswer → Type 0
Names words finding (Refused number) = ⊥
Names words finding Admitted = Clear words finding
Names words finding (Found number depth address) = Lowest words finding number depth address

pub names_one : (words : ℕ) (finding : ℕ → ℕ → ℕ) (a b : AdmitAnswer) → Names words finding a → Names words finding b → a ≡ b
names_one words finding (Refused n) b t u = absurd t
names_one words finding Admitted (Refused n) t u = absurd u
names_one words finding Admitted Admitted t u = refl
names_one words finding Admitted (Found n d a) t u = absurd (lowest_not_clear u t)
names_one words finding (Found n d a) (Refused m) t u = absurd u
names_one words finding (Found n d a) Admitted t u = absurd (lowest_not_clear t u)
names_one words finding (Found n d a) (Found m e b) t u = lowest_one t u

pub names_same : (words : ℕ) (finding other : ℕ → ℕ → ℕ) (answer : AdmitAnswer) → ((d a : ℕ) → d < depths → a < words → other d a ≡ finding d a)
    → Names words finding answer → Names words other answer
names_same words finding other (Refused n) same t = t
names_same words finding other Admitted same t = λ d a deep near. same d a deep near ∙ t d a deep near
names_same words finding other (Found n d a) same t = lowest_same t same
