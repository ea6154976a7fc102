-- What a plan asks, and of which line forms. Assumes nothing.
use Rattle.std.specs.Prelude.{◌≡◌, ℕ, List, [], ◌∷◌, ◌++◌, map, length, Some, None, vec_items, Option}
use Rattle.lines.specs.Limits.{max_inputs, max_lines}
use Rattle.names.specs.Kept.{bytes_of}
use Rattle.settling.specs.declared.latest.Latest.{Latest}
use Rattle.times.specs.declared.ticks.Ticks.{Ticks}
use Rattle.turns.specs.Asked.{Asked, asked, worst}
use Rattle.report.specs.declared.plan.Plan.{Plan}
use Rattle.report.specs.Answers.{LineForm}
use Rattle.report.specs.Plans.{AsksWorst}

abbrev pub asked_in : Plan → List (Asked Ticks)
asked_in plan = map asked (vec_items plan.calls)

abbrev pub names_in : Plan → List (List ℕ)
names_in plan = map bytes_of (vec_items plan.names)

-- one call more, for the worst of that line, and its name
pub record OneMore (before after : Plan) (line : ℕ) (name : List ℕ) : Type 0 where
  pub vector : List ℕ
  pub work : List (Latest Ticks)
  pub wide : length vector ≡ max_inputs
  pub deep : length work ≡ max_lines
  pub asks : asked_in after ≡ asked_in before ++ (worst line vector work ∷ [])
  pub names : names_in after ≡ names_in before ++ (name ∷ [])

-- the form of a line, where it has a name
abbrev pub named_one : ℕ → Option (List ℕ) → List LineForm
named_one number None = []
named_one number (Some name) = record { number = number; name = name } ∷ []

-- no call more, or one for that form
abbrev pub Adds : Plan → Plan → List LineForm → Type 0
Adds before after [] = (asked_in after ≡ asked_in before) × (names_in after ≡ names_in before)
Adds before after (form ∷ forms) = OneMore before after form.number form.name

-- a call for each of these forms, and their names
pub record PlansFor (forms : List LineForm) (plan : Plan) : Type 0 where
  pub asks : AsksWorst forms (asked_in plan)
  pub names : names_in plan ≡ map (λ form. form.name) forms
