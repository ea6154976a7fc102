-- What a call answers on a plain study, after some turns. No ceiling and no loop has a part in it. Assumes nothing.
--     Past                   the turns so far, each a call with its reply, the latest first
--     forgets asked line     an accepted call of this sort makes what was found of the line void
--     Known .. past ..       an earlier seek of the line and value, at a bound not later, found nothing, and nothing forgot it since
--     Answers .. asked told  the reply is the right one
use Rattle.std.specs.Prelude.{◌≡◌, ℕ, ◌+◌, ◌-◌, ◌^◌, ◌≤◌, Bool, true, false, ◌⊎◌, List, [], ◌∷◌, ◌++◌, map, length, drop, is_ok, Some, None, Ok, Err, Option, Result, ◌≢◌}
use Rattle.network.specs.Least.{Least, NothingWrong}
use Rattle.times.specs.Kind.{Kind, NoLater}
use Rattle.settling.specs.declared.latest.Latest.{Latest}
use Rattle.settling.specs.Settle.{Settles, settled, settled_value, settled_time, as_settled, in_vector, tied_by}
use Rattle.search.specs.Search.{Vector, First, undecided}
use Rattle.search.specs.Worst.{Worst}
use Rattle.seeking.specs.declared.seek.Looked.{Looked}
use Rattle.seeking.specs.Seeking.{Late, NoneLate, final_value, settle_time, seek_search}
use Rattle.turns.specs.declared.answers.Greatest.{Greatest}
use Rattle.turns.specs.declared.fault.StudyFault.{StudyFault}
use Rattle.turns.specs.Asked.{Asked, settle, seek, worst, shorten, lengthen, tie, untie, Told, told_settle, told_seek, told_worst, told_change}
use Rattle.turns.specs.Plain.{Plain, is_one, bits, written}
use Rattle.turns.specs.Refusals.{number, Checked, Wrong}

pub record Turn (Time : Type 0) : Type 0 where
  pub call : Asked Time
  pub reply : Told Time

abbrev pub Past : Type 0 → Type 0
Past Time = List (Turn Time)

abbrev pub accepted : {Time : Type 0} → Told Time → Bool
accepted (told_settle outcome values times) = is_ok outcome
accepted (told_seek outcome vector work) = is_ok outcome
accepted (told_worst outcome vector work) = is_ok outcome
accepted (told_change outcome) = is_ok outcome

-- a lengthen and an untie make void what was found of every line; no other call does
abbrev pub forgets : {Time : Type 0} → Asked Time → ℕ → Bool
forgets (settle vector values times) line = false
forgets (seek at value bound vector work) line = false
forgets (worst at vector work) line = false
forgets (shorten at delay) line = false
forgets (lengthen at delay) line = true
forgets (tie at value) line = false
forgets (untie at) line = true

-- what a seek comes to that finds nothing, by its looks
abbrev pub nothing_in : {Time : Type 0} → ℕ → Looked Time
nothing_in looks = record { found = None; looks = looks }

-- an accepted seek of the line and value, at a bound not later, that found nothing
pub data FoundNothing {Time : Type 0} (kind : Kind Time) (line value : ℕ) (bound : Time) : Asked Time → Told Time → Type 0 where
  found_nothing : {sought : Time} {vector vector' : List ℕ} {work work' : List (Latest Time)} {looks : ℕ}
      → NoLater kind sought bound → FoundNothing kind line value bound (seek line value sought vector work) (told_seek (Ok (nothing_in looks)) vector' work')

-- the latest turn found nothing; or it forgot nothing of the line, and this was known before it
abbrev pub Known : {Time : Type 0} → Kind Time → Past Time → ℕ → ℕ → Time → Type 0
Known kind [] line value bound = ⊥
Known kind (turn ∷ past) line value bound =
    FoundNothing kind line value bound turn.call turn.reply
    ⊎ ((accepted turn.reply ≡ true → forgets turn.call line ≢ true) × Known kind past line value bound)

-- an accepted settle writes the final value and settle time of every line into the first places; further places stay
pub record SettleTold {Time : Type 0} (kind : Kind Time) (plain : Plain) (vector : List ℕ) (values values' : List Bool) (times times' : List Time) : Type 0 where
  -- every line follows its rule
  pub rules : Settles kind (tied_by plain.ties) plain.lines (in_vector (bits vector)) (as_settled kind values' times')
  -- the same as worked out from line 0 on, and the further places
  pub values_are : values' ≡ map settled_value (settled kind (tied_by plain.ties) plain.lines (in_vector (bits vector))) ++ drop (length plain.lines) values
  pub times_are : times' ≡ map settled_time (settled kind (tied_by plain.ties) plain.lines (in_vector (bits vector))) ++ drop (length plain.lines) times

-- nothing: no vector that agrees with the ties settles the line to the value at or after the bound, and the buffer is untouched;
-- else the first such vector is written, and the line's settle time under it answered
abbrev pub Shown : {Time : Type 0} → Kind Time → Plain → ℕ → ℕ → Time → List ℕ → List ℕ → Option Time → Type 0
Shown kind plain line value bound vector vector' None =
    NoneLate kind plain.lines plain.ties line (is_one value) bound × (vector' ≡ vector)
Shown kind plain line value bound vector vector' (Some time) =
    (w : Vector) × First (Late kind plain.lines plain.ties line (is_one value) bound) plain.ties w
    × (time ≡ settle_time kind plain.lines plain.ties line w) × (vector' ≡ written w vector)

-- the looks of the search: as many settings as the search tree tests, 1 to 2^(k+1) - 1 with k untied inputs
pub record SearchedLooks {Time : Type 0} (kind : Kind Time) (plain : Plain) (line value : ℕ) (bound : Time) (looks : ℕ) : Type 0 where
  pub of_search : looks ≡ (seek_search kind plain.lines plain.ties line (is_one value) bound).looks
  pub one_look : 1 ≤ looks
  pub few_looks : looks ≤ 2 ^ (undecided plain.ties + 1) - 1

-- what an accepted seek answers
pub record SeekTold {Time : Type 0} (kind : Kind Time) (plain : Plain) (past : Past Time) (line value : ℕ) (bound : Time) (vector vector' : List ℕ) (looked : Looked Time) : Type 0 where
  pub shown : Shown kind plain line value bound vector vector' looked.found
  -- once nothing was found at a bound not later: nothing in 0 looks, until that is forgotten
  pub known_nothing : Known kind past line value bound → looked ≡ nothing_in 0
  -- 0 looks only then
  pub no_looks_known : looked.looks ≡ 0 → Known kind past line value bound
  -- else the looks of the search
  pub searched : (Known kind past line value bound → ⊥) → SearchedLooks kind plain line value bound looked.looks

-- an accepted worst shows a vector that agrees with the ties and settles the line at the time and to the value said; every
-- other such vector settles it no later, and sooner where it precedes the one shown
abbrev pub WorstTold : {Time : Type 0} → Kind Time → Plain → ℕ → List ℕ → List ℕ → Greatest Time → Type 0
WorstTold kind plain line vector vector' greatest =
    (w : Vector) × Worst kind.at_or_before (settle_time kind plain.lines plain.ties line) plain.ties w greatest.time
    × (greatest.value ≡ final_value kind plain.lines plain.ties line w) × (vector' ≡ written w vector)

-- refused with the smallest number that fits, and every buffer as it was; or accepted where no number fits

abbrev pub SettleAnswer : {Time : Type 0} → Kind Time → Plain → List ℕ → List Bool → List Bool → List Time → List Time → Result (Unit {0}) StudyFault → Type 0
SettleAnswer kind plain vector values values' times times' (Ok _) =
    NothingWrong (Wrong plain (settle vector values times)) × SettleTold kind plain vector values values' times times'
SettleAnswer kind plain vector values values' times times' (Err fault) =
    Least (Wrong plain (settle vector values times)) (number fault) × (values' ≡ values) × (times' ≡ times)

-- the work places are left free, as many as they were
abbrev pub SeekAnswer : {Time : Type 0} → Kind Time → Plain → Past Time → ℕ → ℕ → Time → List ℕ → List ℕ → List (Latest Time) → List (Latest Time) → Result (Looked Time) StudyFault → Type 0
SeekAnswer kind plain past line value bound vector vector' work work' (Ok looked) =
    NothingWrong (Wrong plain (seek line value bound vector work)) × SeekTold kind plain past line value bound vector vector' looked × (length work' ≡ length work)
SeekAnswer kind plain past line value bound vector vector' work work' (Err fault) =
    Least (Wrong plain (seek line value bound vector work)) (number fault) × (vector' ≡ vector) × (work' ≡ work)

abbrev pub WorstAnswer : {Time : Type 0} → Kind Time → Plain → ℕ → List ℕ → List ℕ → List (Latest Time) → List (Latest Time) → Result (Greatest Time) StudyFault → Type 0
WorstAnswer kind plain line vector vector' work work' (Ok greatest) =
    NothingWrong (Wrong plain (worst line vector work)) × WorstTold kind plain line vector vector' greatest × (length work' ≡ length work)
WorstAnswer kind plain line vector vector' work work' (Err fault) =
    Least (Wrong plain (worst line vector work)) (number fault) × (vector' ≡ vector) × (work' ≡ work)

pub data Answers {Time : Type 0} (kind : Kind Time) (plain : Plain) (past : Past Time) : Asked Time → Told Time → Type 0 where
  to_settle : {vector : List ℕ} {values values' : List Bool} {times times' : List Time} {outcome : Result (Unit {0}) StudyFault}
      → SettleAnswer kind plain vector values values' times times' outcome → Answers kind plain past (settle vector values times) (told_settle outcome values' times')
  to_seek : {line value : ℕ} {bound : Time} {vector vector' : List ℕ} {work work' : List (Latest Time)} {outcome : Result (Looked Time) StudyFault}
      → SeekAnswer kind plain past line value bound vector vector' work work' outcome → Answers kind plain past (seek line value bound vector work) (told_seek outcome vector' work')
  to_worst : {line : ℕ} {vector vector' : List ℕ} {work work' : List (Latest Time)} {outcome : Result (Greatest Time) StudyFault}
      → WorstAnswer kind plain line vector vector' work work' outcome → Answers kind plain past (worst line vector work) (told_worst outcome vector' work')
  to_shorten : {line delay : ℕ} {outcome : Result (Unit {0}) StudyFault}
      → Checked (Wrong {Time = Time} plain (shorten line delay)) outcome → Answers kind plain past (shorten line delay) (told_change outcome)
  to_lengthen : {line delay : ℕ} {outcome : Result (Unit {0}) StudyFault}
      → Checked (Wrong {Time = Time} plain (lengthen line delay)) outcome → Answers kind plain past (lengthen line delay) (told_change outcome)
  to_tie : {line value : ℕ} {outcome : Result (Unit {0}) StudyFault}
      → Checked (Wrong {Time = Time} plain (tie line value)) outcome → Answers kind plain past (tie line value) (told_change outcome)
  to_untie : {line : ℕ} {outcome : Result (Unit {0}) StudyFault}
      → Checked (Wrong {Time = Time} plain (untie line)) outcome → Answers kind plain past (untie line) (told_change outcome)
