-- The greatest settle time over the vectors that agree with the ties, and the first vector that reaches it. Assumes nothing of networks:
-- `settles v` is a vector's settle time, `latest s` the latest time under a setting, at_or_before the order of times.
--     Worst .. s w t               w is the first vector that reaches the greatest settle time t
--     promising .. late best       a latest time is after the worst so far
--     worst_vector .. ties         the search: 0 before 1, settings that are not promising passed over
use Rattle.std.specs.Prelude.{◌≡◌, ℕ, zero, suc, Bool, true, false, cond, not, ◌⊎◌, length, Some, None, Option}
use Rattle.search.specs.Search.{Vector, Setting, Agrees, Precedes, undecided, decide, whole, vector}

-- the laws of an order, given as the test whether one time is at or before another
pub record Order {T : Type 0} (at_or_before : T → T → Bool) : Type 0 where
  pub total : (x y : T) → (at_or_before x y ≡ true) ⊎ (at_or_before y x ≡ true)
  pub transitive : (x y z : T) → at_or_before x y ≡ true → at_or_before y z ≡ true → at_or_before x z ≡ true

-- t is the greatest settle time of the vectors that agree with the setting, and w the first that reaches it
pub record Worst {T : Type 0} (at_or_before : T → T → Bool) (settles : Vector → T) (s : Setting) (w : Vector) (t : T) : Type 0 where
  pub agrees : Agrees w s
  pub reached : settles w ≡ t
  pub none_later : (v : Vector) → Agrees v s → at_or_before (settles v) t ≡ true
  pub earlier_sooner : (v : Vector) → Agrees v s → Precedes v w → at_or_before t (settles v) ≡ false

-- a vector and its settle time
pub record Reached (T : Type 0) : Type 0 where
  pub at : Vector
  pub time : T

-- the worst so far, if any: a time, and the vector beside it
abbrev pub best_of : {T : Type 0} → Option T → Vector → Option (Reached T)
best_of None at = None
best_of (Some time) at = Some (record { at = at; time = time })

abbrev pub best_time : {T : Type 0} → Option (Reached T) → Option T
best_time None = None
best_time (Some best) = Some best.time

-- a latest time is after the time of the worst so far; a setting without a latest time has no vector
abbrev pub promising : {T : Type 0} → (T → T → Bool) → Option T → Option T → Bool
promising at_or_before None best = false
promising at_or_before (Some late) None = true
promising at_or_before (Some late) (Some best) = not (at_or_before late best)

module _ {T : Type 0} (at_or_before : T → T → Bool) (latest : Setting → Option T) where
  -- from a setting with k undecided inputs, and the worst so far
  unfoldable pub worst_from : ℕ → Setting → Option (Reached T) → Option (Reached T)
  worst_from zero s best = cond (promising at_or_before (latest s) (best_time best)) (best_of (latest s) (vector s)) best
  worst_from (suc k) s best =
      let after_0 : Option (Reached T) = worst_from k (decide false s) best in
      let after_1 : Option (Reached T) = worst_from k (decide true s) after_0 in
      cond (promising at_or_before (latest s) (best_time best)) after_1 best

  unfoldable pub worst_vector : Setting → Option (Reached T)
  worst_vector ties = worst_from (undecided ties) ties None

-- what latest times owe: no agreeing vector settles later, and a whole vector's is its settle time
pub record Bounding {T : Type 0} (inputs : ℕ) (at_or_before : T → T → Bool) (settles : Vector → T) (latest : Setting → Option T) : Type 0 where
  pub sound : (v : Vector) (s : Setting) → length s ≡ inputs → Agrees v s → (t : T) × (latest s ≡ Some t) × (at_or_before (settles v) t ≡ true)
  pub exact : (v : Vector) → length v ≡ inputs → latest (whole v) ≡ Some (settles v)

-- the search shows the worst, for every order and all latest times that pay what they owe
abbrev pub WorstStands : (T : Type 0) → Type 0
WorstStands T =
    (at_or_before : T → T → Bool) (settles : Vector → T) (latest : Setting → Option T) (ties : Setting) → Order at_or_before → Bounding (length ties) at_or_before settles latest → (r : Reached T) × (worst_vector at_or_before latest ties ≡ Some r) × Worst at_or_before settles ties r.at r.time
