-- The first undecided input, and writes there. Assumes nothing.
use Rattle.std.proofs.Common.{◌≡◌, ℕ, suc, ◌+◌, ◌≤◌, Bool, true, false, ◌≢◌, List, [], ◌∷◌, length, set, Some, None, Option, cond, unwrap_or, ltb, sym, refl, ap, ◌∙◌, arith}
use Rattle.std.proofs.lemmas.Bool.{ltb-false, ltb-true}
use Rattle.std.proofs.lemmas.List.Recursion.{is_position_or_len}
use Rattle.std.proofs.lemmas.List.Sums.{prefix_len-le-length}
use Rattle.std.specs.Option.{is_none}
use Rattle.std.specs.List.{position, position_or_len}
use Rattle.search.specs.Search.{Setting, undecided, decide}
use Rattle.search.specs.Walk.{first_open}
use Rattle.search.proofs.Settings.{decide_undecided}

-- it is the first that passes the test, where one does
first_open_is : (s : Setting) → first_open s ≡ position_or_len is_none s
first_open_is s = is_position_or_len first_open is_none refl step s
  where
    step : (o : Option Bool) (t : List (Option Bool)) → first_open (o ∷ t) ≡ cond (is_none o) 0 (1 + first_open t)
    step None t = refl
    step (Some x) t = omega arith

pub first_position : (s : Setting) → unwrap_or (position is_none s) (length s) ≡ first_open s
first_position s = by (ltb (position_or_len is_none s) (length s)) refl ∙ sym (first_open_is s)
  where
    by : (b : Bool) → ltb (position_or_len is_none s) (length s) ≡ b → unwrap_or (cond b (Some (position_or_len is_none s)) None) (length s) ≡ position_or_len is_none s
    by true e = refl
    by false e = let within : position_or_len is_none s ≤ length s = prefix_len-le-length _ s in let past = ltb-false _ _ e in omega arith

-- where an undecided input is found, and where none is
pub open_at : (s : Setting) (next : ℕ) → position is_none s ≡ Some next → next ≡ first_open s
open_at s next e = sym (ap (λ (o : Option ℕ). unwrap_or o (length s)) e) ∙ first_position s

pub open_within : (s : Setting) (next : ℕ) → position is_none s ≡ Some next → next ≡ length s → ⊥
open_within s next = by (ltb (position_or_len is_none s) (length s)) refl
  where
    by : (b : Bool) → ltb (position_or_len is_none s) (length s) ≡ b → cond b (Some (position_or_len is_none s)) None ≡ Some next → next ≡ length s → ⊥
    by true less e same = let at : position_or_len is_none s ≡ next = cc in let below = ltb-true _ _ less in omega arith
    by false less e same = cc

pub open_nowhere : (s : Setting) → position is_none s ≡ None → first_open s ≡ length s
open_nowhere s e = sym (first_position s) ∙ ap (λ (o : Option ℕ). unwrap_or o (length s)) e

-- where the walk ends
pub open_none : (s : Setting) → first_open s ≡ length s → undecided s ≡ 0
open_none [] e = refl
open_none (None ∷ s) e = absurd (omega arith)
open_none (Some x ∷ s) e = open_none s (omega arith)

open_some : (s : Setting) → first_open s ≢ length s → (k : ℕ) × (undecided s ≡ suc k)
open_some [] e = absurd (e refl)
open_some (None ∷ s) e = (undecided s, refl)
open_some (Some x ∷ s) e = open_some s (λ q. e (ap suc q))

pub open_left : (s : Setting) (next : ℕ) → next ≡ first_open s → (next ≡ length s → ⊥) → (k : ℕ) × (undecided s ≡ suc k)
open_left s next here h = open_some s (λ e. h (here ∙ e))

-- writes at the first undecided input: it is decided, decided anew, undecided again
set_open : (s : Setting) (b : Bool) → set s (first_open s) (Some b) ≡ decide b s
set_open [] b = refl
set_open (None ∷ s) b = refl
set_open (Some x ∷ s) b = ap (λ t. Some x ∷ t) (set_open s b)

set_back : (s : Setting) (a : Bool) (o : Option Bool) → set (decide a s) (first_open s) o ≡ set s (first_open s) o
set_back [] a o = refl
set_back (None ∷ s) a o = refl
set_back (Some x ∷ s) a o = ap (λ t. Some x ∷ t) (set_back s a o)

set_none : (s : Setting) → set s (first_open s) None ≡ s
set_none [] = refl
set_none (None ∷ s) = refl
set_none (Some x ∷ s) = ap (λ t. Some x ∷ t) (set_none s)

module _ (s : Setting) (next : ℕ) (here : next ≡ first_open s) where
  pub decided : (b : Bool) → set s next (Some b) ≡ decide b s
  decided b = ap (λ i. set s i (Some b)) here ∙ set_open s b

  pub decided_again : (after : Setting) (a : Bool) → after ≡ decide a s → (b : Bool) → set after next (Some b) ≡ decide b s
  decided_again after a e b = ap (λ x. set x next (Some b)) e ∙ ap (λ i. set (decide a s) i (Some b)) here ∙ set_back s a (Some b) ∙ set_open s b

  pub undone : (after : Setting) (a : Bool) → after ≡ decide a s → set after next None ≡ s
  undone after a e = ap (λ x. set x next None) e ∙ ap (λ i. set (decide a s) i None) here ∙ set_back s a None ∙ set_none s

pub fewer : (s x : Setting) (b : Bool) (k : ℕ) → undecided s ≡ suc k → x ≡ decide b s → undecided x ≡ k
fewer s x b k u e = ap undecided e ∙ decide_undecided b s k u
