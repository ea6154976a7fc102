-- Settings: what a continuation keeps, and where the vectors of the two continuations stand. Assumes nothing.
use Rattle.std.proofs.Common.{◌≡◌, ℕ, suc, Bool, true, false, ◌⊎◌, [], ◌∷◌, length, Some, None, sym, refl, ap, ◌∙◌, inl, inr, ⊎_elim, arith}
use Rattle.search.specs.Search.{Vector, Setting, Agrees, Precedes, undecided, decide, whole, vector}

pub agrees_length : (v : Vector) (s : Setting) → Agrees v s → length v ≡ length s
agrees_length [] [] a = refl
agrees_length [] (o ∷ s) a = absurd a
agrees_length (x ∷ v) [] a = absurd a
agrees_length (x ∷ v) (None ∷ s) a = ap suc (agrees_length v s a)
agrees_length (x ∷ v) (Some y ∷ s) a = ap suc (agrees_length v s a.1)

pub decide_length : (b : Bool) (s : Setting) → length (decide b s) ≡ length s
decide_length b [] = refl
decide_length b (Some x ∷ s) = ap suc (decide_length b s)
decide_length b (None ∷ s) = refl

-- where every input is decided
pub whole_vector : (s : Setting) → undecided s ≡ 0 → whole (vector s) ≡ s
whole_vector [] h = refl
whole_vector (Some x ∷ s) h = ap (λ t. Some x ∷ t) (whole_vector s h)
whole_vector (None ∷ s) h = absurd (omega arith)

pub vector_agrees : (s : Setting) → Agrees (vector s) s
vector_agrees [] = tt
vector_agrees (Some x ∷ s) = (refl, vector_agrees s)
vector_agrees (None ∷ s) = vector_agrees s

pub agrees_one : (v : Vector) (s : Setting) → undecided s ≡ 0 → Agrees v s → v ≡ vector s
agrees_one [] [] h a = refl
agrees_one [] (o ∷ s) h a = absurd a
agrees_one (x ∷ v) [] h a = absurd a
agrees_one (x ∷ v) (None ∷ s) h a = absurd (omega arith)
agrees_one (x ∷ v) (Some y ∷ s) h a = λ i. a.0 i ∷ agrees_one v s h a.1 i

-- where an input is left open
pub decide_undecided : (b : Bool) (s : Setting) (k : ℕ) → undecided s ≡ suc k → undecided (decide b s) ≡ k
decide_undecided b [] k h = absurd (omega arith)
decide_undecided b (Some x ∷ s) k h = decide_undecided b s k h
decide_undecided b (None ∷ s) k h = omega arith

pub agrees_decide : (b : Bool) (v : Vector) (s : Setting) → Agrees v (decide b s) → Agrees v s
agrees_decide b [] [] a = a
agrees_decide b [] (Some y ∷ s) a = absurd a
agrees_decide b [] (None ∷ s) a = absurd a
agrees_decide b (x ∷ v) [] a = absurd a
agrees_decide b (x ∷ v) (None ∷ s) a = a.1
agrees_decide b (x ∷ v) (Some y ∷ s) a = (a.0, agrees_decide b v s a.1)

pub agrees_either : (v : Vector) (s : Setting) (k : ℕ) → undecided s ≡ suc k → Agrees v s → Agrees v (decide false s) ⊎ Agrees v (decide true s)
agrees_either [] [] k h a = absurd (omega arith)
agrees_either [] (o ∷ s) k h a = absurd a
agrees_either (x ∷ v) [] k h a = absurd a
agrees_either (false ∷ v) (None ∷ s) k h a = inl (refl, a)
agrees_either (true ∷ v) (None ∷ s) k h a = inr (refl, a)
agrees_either (x ∷ v) (Some y ∷ s) k h a =
    ⊎_elim (λ l. inl (a.0, l)) (λ r. inr (a.0, r)) (agrees_either v s k h a.1)

precedes_cons : (x y : Bool) (v w : Vector) → x ≡ y → Precedes v w → Precedes (x ∷ v) (y ∷ w)
precedes_cons false false v w e p = p
precedes_cons true true v w e p = p
precedes_cons false true v w e p = tt
precedes_cons true false v w e p = let z : ◌≡◌ {A = ℕ} 0 1 = cc in absurd (omega arith)

first_differ : (x y : Bool) (v w : Vector) → x ≡ false → y ≡ true → Precedes (x ∷ v) (y ∷ w)
first_differ false true v w e f = tt
first_differ false false v w e f = let z : ◌≡◌ {A = ℕ} 0 1 = cc in absurd (omega arith)
first_differ true y v w e f = let z : ◌≡◌ {A = ℕ} 0 1 = cc in absurd (omega arith)

-- each vector of the continuation with 0 precedes each of the one with 1
pub zero_precedes_one : (v w : Vector) (s : Setting) (k : ℕ) → undecided s ≡ suc k → Agrees v (decide false s) → Agrees w (decide true s) → Precedes v w
zero_precedes_one v w [] k h a b = absurd (omega arith)
zero_precedes_one [] w (Some z ∷ s) k h a b = absurd a
zero_precedes_one (x ∷ v) [] (Some z ∷ s) k h a b = absurd b
zero_precedes_one (x ∷ v) (y ∷ w) (Some z ∷ s) k h a b =
    precedes_cons x y v w (a.0 ∙ sym b.0) (zero_precedes_one v w s k h a.1 b.1)
zero_precedes_one [] w (None ∷ s) k h a b = absurd a
zero_precedes_one (x ∷ v) [] (None ∷ s) k h a b = absurd b
zero_precedes_one (x ∷ v) (y ∷ w) (None ∷ s) k h a b = first_differ x y v w a.0 b.0
