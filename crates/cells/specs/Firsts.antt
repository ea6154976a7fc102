-- The first by an order: of two that may be missing, and of numbered things that pass a test. Assumes nothing.
use Rattle.std.specs.Prelude.{◌≡◌, ℕ, zero, suc, ◌<◌, Bool, true, false, cond, Some, None, Option}
use Rattle.times.specs.Kind.{Kind}

-- of the things numbered below `n` that pass the test, `a` is one, and comes first by the order
pub record FirstPassing {A : Type 0} (order : A → A → Bool) (test : ℕ → Bool) (thing : ℕ → A) (n : ℕ) (a : A) : Type 0 where
  pub number : ℕ
  pub present : number < n
  pub passes : test number ≡ true
  pub is : thing number ≡ a
  pub least : (other : ℕ) → other < n → test other ≡ true → order a (thing other) ≡ true

-- the order by lateness: `a` is at or after `b`
abbrev pub at_or_after : {Time : Type 0} → Kind Time → Time → Time → Bool
at_or_after kind a b = kind.at_or_before b a

-- the same, computed

-- of two that may be missing, the one that comes first
abbrev pub first : {A : Type 0} → (A → A → Bool) → Option A → Option A → Option A
first order None b = b
first order (Some a) None = Some a
first order (Some a) (Some b) = Some (cond (order a b) a b)

-- the first of the candidates numbered below `n`
abbrev pub first_among : {A : Type 0} → (A → A → Bool) → (ℕ → Option A) → ℕ → Option A
first_among order candidate zero = None
first_among order candidate (suc n) = first order (candidate n) (first_among order candidate n)

abbrev pub only_if : {A : Type 0} → Bool → A → Option A
only_if true a = Some a
only_if false a = None
