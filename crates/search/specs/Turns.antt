-- The search one look at a time, so that it can rest between two looks: all that it keeps is the ties and the setting to be tested next.
-- Assumes nothing.
--     Over ties s            a setting of the search
--     next_setting ties s    where the search goes on when all continuations of a setting are done, or None at its end
--     turn, turns            one look; so many looks
use Rattle.std.specs.Prelude.{◌≡◌, ℕ, zero, suc, ◌<◌, Bool, true, false, [], ◌∷◌, Some, None, Option}
use Rattle.search.specs.Search.{Vector, Setting, Outcome, undecided, decide, vector, first_vector}

-- the setting decides the tied inputs as they are tied, and of the untied inputs the first so many by number
abbrev pub Over : Setting → Setting → Type 0
Over [] [] = Unit {0}
Over [] (o ∷ s) = ⊥
Over (t ∷ ties) [] = ⊥
Over (Some t ∷ ties) (o ∷ s) = (o ≡ Some t) × Over ties s
Over (None ∷ ties) (Some b ∷ s) = Over ties s
Over (None ∷ ties) (None ∷ s) = s ≡ ties

-- the inputs after a tied one go on, or not
abbrev pub after_input : Option Bool → Option Setting → Option Setting
after_input o None = None
after_input o (Some s) = Some (o ∷ s)

-- the inputs after an untied one go on; or else its own 0 becomes 1, and they start anew
abbrev pub raise : Bool → Setting → Option Setting → Option Setting
raise b ties (Some s) = Some (Some b ∷ s)
raise false ties None = Some (Some true ∷ ties)
raise true ties None = None

-- the last untied input that was decided as 0 becomes 1, and those decided after it are undecided again
abbrev pub next_setting : (ties setting : Setting) → Option Setting
next_setting [] s = None
next_setting (t ∷ ties) [] = None
next_setting (Some t ∷ ties) (o ∷ s) = after_input o (next_setting ties s)
next_setting (None ∷ ties) (None ∷ s) = None
next_setting (None ∷ ties) (Some b ∷ s) = raise b ties (next_setting ties s)

-- how far a search has come: at a setting that is to be tested, or at its end
pub data Progress : Type 0 where
  looking : (setting : Setting) → Progress
  finished : (found : Option Vector) → Progress

abbrev pub go_on : Option Setting → Progress
go_on None = finished None
go_on (Some s) = looking s

-- one look: a cut setting is left, a whole one is the vector found, any other is continued with 0
abbrev pub look_at : (ties setting : Setting) → (cut : Bool) → (undecided_inputs : ℕ) → Progress
look_at ties s true k = go_on (next_setting ties s)
look_at ties s false zero = finished (Some (vector s))
look_at ties s false (suc k) = looking (decide false s)

abbrev pub turn : (Setting → Bool) → Setting → Progress → Progress
turn cut ties (looking s) = look_at ties s (cut s) (undecided s)
turn cut ties (finished found) = finished found

abbrev pub turns : (Setting → Bool) → Setting → ℕ → Progress → Progress
turns cut ties zero p = p
turns cut ties (suc n) p = turns cut ties n (turn cut ties p)

-- what is to be tested next, if anything, is a setting of the search
abbrev pub Looking : Setting → Progress → Type 0
Looking ties (looking s) = Over ties s
Looking ties (finished found) = ⊥

-- after as many looks as the search has, and not before, the loop is finished with what the search finds;
-- each setting that it tests is one of the search
pub record Turned (cut : Setting → Bool) (ties : Setting) (outcome : Outcome) : Type 0 where
  pub finishes : turns cut ties outcome.looks (looking ties) ≡ finished outcome.found
  pub not_before : (n : ℕ) → n < outcome.looks → Looking ties (turns cut ties n (looking ties))

-- the loop of single looks is the search
abbrev pub TurnsStand : Type 0
TurnsStand = (cut : Setting → Bool) (ties : Setting) → Turned cut ties (first_vector cut ties)
