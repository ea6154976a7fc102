-- A run of calls for the worst of line forms: what its replies tell. Assumes nothing.
use Rattle.std.proofs.Common.{◌≡◌, ℕ, ◌<◌, ◌≤◌, Bool, List, [], ◌∷◌, ◌++◌, length, None, Ok, Err, Option, Result, sym, refl, subst, arith}
use Rattle.std.proofs.lemmas.List.{length-replicate}
use Rattle.lines.specs.declared.line.Line.{Line}
use Rattle.lines.specs.Limits.{max_inputs, max_lines}
use Rattle.lines.specs.Lines.{inputs}
use Rattle.settling.specs.declared.latest.Latest.{Latest}
use Rattle.times.specs.declared.ticks.Ticks.{Ticks}
use Rattle.times.specs.Kinds.{ticks_kind}
use Rattle.turns.specs.declared.answers.Greatest.{Greatest}
use Rattle.turns.specs.declared.fault.StudyFault.{StudyFault}
use Rattle.turns.specs.Asked.{Asked, Told, worst, told_worst}
use Rattle.turns.specs.Answers.{Past, to_worst, WorstAnswer}
use Rattle.turns.specs.Plain.{Plain, opened}
use Rattle.turns.specs.Refusals.{WorstWrong, number}
use Rattle.turns.specs.Runs.{After, Run, at_first, refused, accepted, calls_in, ended, goes_on}
use Rattle.report.specs.Answers.{LineForm}
use Rattle.report.specs.Plans.{AsksWorst, no_call, a_call, Reaches, no_reply, a_reply}

-- calls for the worst alone
pub data OnlyWorst : List (Asked Ticks) → Type 0 where
  none_asked : OnlyWorst []
  one_asked : {calls : List (Asked Ticks)} (line : ℕ) (vector : List ℕ) (work : List (Latest Ticks)) → OnlyWorst calls → OnlyWorst (worst line vector work ∷ calls)

-- they leave the plain study as it was opened
still_opened : (plain : Plain) (calls : List (Asked Ticks)) (after : Plain) → OnlyWorst calls → After plain calls after → after ≡ plain
still_opened plain [] after o at_first = refl
still_opened plain (c ∷ calls) after (one_asked line vector work o) (refused a n w) = still_opened plain calls _ o a
still_opened plain (c ∷ calls) after (one_asked line vector work o) (accepted a w) = still_opened plain calls _ o a

-- each form's line is present
pub data Present (count : ℕ) : List LineForm → Type 0 where
  none_there : Present count []
  one_there : {forms : List LineForm} (form : LineForm) → form.number < count → Present count forms → Present count (form ∷ forms)

-- how many lines and inputs there can be
pub record Bounded (lines : List Line) : Type 0 where
  pub few_lines : length lines ≤ max_lines
  pub few_inputs : inputs lines ≤ max_inputs

-- such a call is accepted, and its reply shows the worst vector
one_reply : (lines : List Line) (forms : List LineForm) (replies : List (Told Ticks)) (form : LineForm) (vector vector' : List ℕ) (work work' : List (Latest Ticks)) (outcome : Result (Greatest Ticks) StudyFault)
    → Bounded lines → form.number < length lines → length vector ≡ max_inputs → length work ≡ max_lines
    → WorstAnswer ticks_kind (opened lines) form.number vector vector' work work' outcome → Reaches lines forms replies → Reaches lines (form ∷ forms) (told_worst outcome vector' work' ∷ replies)
one_reply lines forms replies form vector vector' work work' (Ok greatest) b there lv lw h more =
    let shown = h.1 in
    subst (λ v. Reaches lines (form ∷ forms) (told_worst (Ok greatest) v work' ∷ replies)) (sym shown.3) (a_reply form greatest shown.0 vector work' shown.1 more)
one_reply lines forms replies form vector vector' work work' (Err fault) b there lv lw h more = absurd (wrong (number fault) h.0.fits)
  where
    wrong : (n : ℕ) → WorstWrong (opened lines) form.number (length vector) (length work) n → ⊥
    wrong n (WorstWrong.no_line absent) = omega arith
    wrong n (WorstWrong.short_vector short) = omega (arith, length-replicate {A = Option Bool} (inputs lines) None, b.few_inputs)
    wrong n (WorstWrong.few_work short) = omega (arith, b.few_lines)

pub run_reaches : (lines : List Line) (forms : List LineForm) (calls : List (Asked Ticks)) (replies : List (Told Ticks)) (past : Past Ticks)
    → Bounded lines → Present (length lines) forms → OnlyWorst (calls_in past) → AsksWorst forms calls → Run ticks_kind (opened lines) past calls replies → Reaches lines forms replies
run_reaches lines [] [] replies past b p o no_call ended = no_reply
run_reaches lines [] (c ∷ calls) replies past b p o asks run = elim asks [ ]
run_reaches lines (f ∷ forms) [] replies past b p o asks run = elim asks [ ]
run_reaches lines (f ∷ forms) (c ∷ calls) [] past b p o asks run = elim run [ ]
run_reaches lines (f ∷ forms) (c ∷ calls) (r ∷ replies) past b (one_there form there p) o (a_call form2 vector work lv lw asks) (goes_on after (to_worst {vector' = shown} {work' = free} {outcome = outcome} h) run) =
    one_reply lines forms replies f vector shown work free outcome b there lv lw (subst (λ q. WorstAnswer ticks_kind q f.number vector shown work free outcome) (still_opened (opened lines) (calls_in past) _ o after) h)
    (run_reaches lines forms calls replies _ b p (one_asked f.number vector work o) asks run)

-- One form more at the end.

pub asks_push : (forms : List LineForm) (calls : List (Asked Ticks)) (form : LineForm) (vector : List ℕ) (work : List (Latest Ticks)) → AsksWorst forms calls → length vector ≡ max_inputs → length work ≡ max_lines
    → AsksWorst (forms ++ (form ∷ [])) (calls ++ (worst form.number vector work ∷ []))
asks_push [] (c ∷ calls) form vector work asks lv lw = elim asks [ ]
asks_push (f ∷ forms) [] form vector work asks lv lw = elim asks [ ]
asks_push [] [] form vector work no_call lv lw = a_call form vector work lv lw no_call
asks_push (f ∷ forms) (c ∷ calls) form vector work (a_call g v w a b asks) lv lw = a_call f v w a b (asks_push forms calls form vector work asks lv lw)

pub present_push : (count : ℕ) (forms : List LineForm) (form : LineForm) → Present count forms → form.number < count → Present count (forms ++ (form ∷ []))
present_push count [] form none_there h = one_there form h none_there
present_push count (f ∷ forms) form (one_there g i p) h = one_there f i (present_push count forms form p h)
