-- That no vector is late keeps: at a later bound, through a tie, and through a shorten. Only the last rests on the law of longer
-- delays. Assumes nothing.
use Rattle.std.proofs.Common.{◌≡◌, ℕ, zero, suc, ◌+◌, ◌<◌, ◌≤◌, Bool, List, [], ◌∷◌, length, get_or, set, Some, None, sym, refl, ap, ◌∙◌, subst, inl, inr, arith, length-set}
use Rattle.lines.specs.declared.line.Driver.{Driver}
use Rattle.lines.specs.declared.line.Driver.TheVariants.{Input, Output}
use Rattle.lines.specs.declared.line.Line.{Line}
use Rattle.lines.specs.Limits.{max_delay}
use Rattle.lines.specs.Lines.{line_at, input_count, inputs, LawfulFrom, Lawful}
use Rattle.times.specs.Kind.{Kind, Laws, LongerLater, NoLater}
use Rattle.settling.specs.declared.settle.Settled.{Settled}
use Rattle.settling.specs.Settle.{LineRule, ShorterLine, settled, settled_line, in_vector, tied_by}
use Rattle.settling.proofs.SettleRules.{shorter_settles_no_later, rules_give_settled}
use Rattle.search.specs.Search.{Vector, Setting, Agrees}
use Rattle.seeking.specs.Seeking.{NoneLate, line_settled, settle_time}
use Rattle.turns.specs.Answers.{Past, FoundNothing, found_nothing, Known}
use Rattle.turns.specs.Asked.{Asked, Told}
use Rattle.turns.specs.Plain.{with_delay}

-- a delay changed

pub inputs_delay : (lines : List Line) (line delay : ℕ) → inputs (with_delay lines line delay) ≡ inputs lines
inputs_delay [] line delay = refl
inputs_delay (x ∷ lines) zero delay = refl
inputs_delay (x ∷ lines) (suc line) delay = ap (λ n. input_count x.driver + n) (inputs_delay lines line delay)

from_delay : (count number : ℕ) (lines : List Line) (line delay : ℕ) → delay ≤ max_delay → LawfulFrom count number lines → LawfulFrom count number (with_delay lines line delay)
from_delay count number [] line delay fits l = l
from_delay count number (x ∷ lines) zero delay fits l = (record { in_order = l.0.in_order; delay_fits = fits }, l.1)
from_delay count number (x ∷ lines) (suc line) delay fits l = (l.0, from_delay count (suc number) lines line delay fits l.1)

pub lawful_delay : (lines : List Line) (line delay : ℕ) → delay ≤ max_delay → Lawful lines → Lawful (with_delay lines line delay)
lawful_delay lines line delay fits l =
    subst (λ n. LawfulFrom n 0 (with_delay lines line delay)) (sym (inputs_delay lines line delay)) (from_delay (inputs lines) 0 lines line delay fits l)

shorter_line : (lines : List Line) (line delay : ℕ) → delay ≤ (line_at lines line).delay → (number : ℕ) → number < length lines → ShorterLine (line_at (with_delay lines line delay) number) (line_at lines number)
shorter_line [] line delay h number lt = absurd (omega arith)
shorter_line (x ∷ lines) zero delay h zero lt = record { same_driver = refl; no_greater = λ value. h }
shorter_line (x ∷ lines) zero delay h (suc number) lt = record { same_driver = refl; no_greater = λ value. omega arith }
shorter_line (x ∷ lines) (suc line) delay h zero lt = record { same_driver = refl; no_greater = λ value. omega arith }
shorter_line (x ∷ lines) (suc line) delay h (suc number) lt = shorter_line lines line delay h number (omega arith)

-- a tie leaves fewer vectors
tie_fewer : (v : Vector) (ties : Setting) (i : ℕ) (value : Bool) → get_or ties i None ≡ None → Agrees v (set ties i (Some value)) → Agrees v ties
tie_fewer v [] i value h a = a
tie_fewer [] (o ∷ s) zero value h a = absurd a
tie_fewer [] (o ∷ s) (suc i) value h a = absurd a
tie_fewer (x ∷ v) (Some y ∷ s) zero value h a = let z : ◌≡◌ {A = ℕ} 0 1 = cc in absurd (omega arith)
tie_fewer (x ∷ v) (None ∷ s) zero value h a = a.1
tie_fewer (x ∷ v) (None ∷ s) (suc i) value h a = tie_fewer v s i value h a
tie_fewer (x ∷ v) (Some y ∷ s) (suc i) value h a = (a.0, tie_fewer v s i value h a.1)

module _ {Time : Type 0} (kind : Kind Time) (laws : Laws kind) where
  -- lines settle alike whichever inputs are tied
  rule_alike : (some other vector : ℕ → Bool) (all : ℕ → Settled Time) (number : ℕ) (line : Line) (driver : Driver) → LineRule kind some vector all number line driver → LineRule kind other vector all number line driver
  rule_alike some other vector all number line Input h = record { value_is = h.value_is; time_is = h.time_is }
  rule_alike some other vector all number line (Output cell) h = h

  tied_alike : (lines : List Line) → Lawful lines → (some other : Setting) (line : ℕ) (v : Vector) → line < length lines → line_settled kind lines some line v ≡ line_settled kind lines other line v
  tied_alike lines lawful some other line v present =
      let rules = rules_give_settled kind laws (tied_by some) lines (in_vector v) lawful in
      (rules_give_settled kind laws (tied_by other) lines (in_vector v) lawful).1 (settled_line kind (settled kind (tied_by some) lines (in_vector v)))
      (λ number within. rule_alike (tied_by some) (tied_by other) (in_vector v) (settled_line kind (settled kind (tied_by some) lines (in_vector v))) number (line_at lines number) (line_at lines number).driver (rules.0 number within)) line present

  pub later_none_late : (lines : List Line) (ties : Setting) (line : ℕ) (value : Bool) (b c : Time) → NoLater kind b c → NoneLate kind lines ties line value b → NoneLate kind lines ties line value c
  later_none_late lines ties line value b c le none v a l =
      none v a (record { final_is = l.final_is; not_before = laws.transitive b c (settle_time kind lines ties line v) le l.not_before })

  pub tie_none_late : (lines : List Line) → Lawful lines → (ties : Setting) (input : ℕ) (at : Bool) → get_or ties input None ≡ None
      → (line : ℕ) (value : Bool) (bound : Time) → line < length lines → NoneLate kind lines ties line value bound → NoneLate kind lines (set ties input (Some at)) line value bound
  tie_none_late lines lawful ties input at untied line value bound present none v a l =
      let alike = tied_alike lines lawful (set ties input (Some at)) ties line v present in
      none v (tie_fewer v ties input at untied a) (record { final_is = sym (ap (λ s. s.value) alike) ∙ l.final_is; not_before = subst (λ (s : Settled Time). NoLater kind bound s.time) alike l.not_before })

  pub shorten_none_late : LongerLater kind → (lines : List Line) → Lawful lines → (ties : Setting) (at delay : ℕ) → delay ≤ max_delay → delay ≤ (line_at lines at).delay
      → (line : ℕ) (value : Bool) (bound : Time) → line < length lines → NoneLate kind lines ties line value bound → NoneLate kind (with_delay lines at delay) ties line value bound
  shorten_none_late longer lines lawful ties at delay fits h line value bound present none v a l =
      let s = shorter_settles_no_later kind laws longer (tied_by ties) (with_delay lines at delay) lines (in_vector v) (lawful_delay lines at delay fits lawful) lawful (record { as_many = length-set lines at _; each = shorter_line lines at delay h }) line present in
      none v a (record { final_is = sym s.0 ∙ l.final_is; not_before = laws.transitive bound _ (settle_time kind lines ties line v) l.not_before s.1 })

  finds_later : (line value : ℕ) (b c : Time) (call : Asked Time) (reply : Told Time) → NoLater kind b c → FoundNothing kind line value b call reply → FoundNothing kind line value c call reply
  finds_later line value b c _ _ le (found_nothing h) = found_nothing (laws.transitive _ b c h le)

  -- what is known at a bound is known at every later one
  pub known_later : (past : Past Time) (line value : ℕ) (b c : Time) → NoLater kind b c → Known kind past line value b → Known kind past line value c
  known_later [] line value b c le k = absurd k
  known_later (turn ∷ past) line value b c le (inl f) = inl (finds_later line value b c turn.call turn.reply le f)
  known_later (turn ∷ past) line value b c le (inr k) = inr (k.0, known_later past line value b c le k.1)
