-- One turn: the call is answered on the plain study, and the study stands for one turn more. Assumes nothing.
use Rattle.std.proofs.Common.{◌≡◌, ℕ, ◌*◌, ◌<◌, ◌≤◌, Bool, true, false, List, ◌∷◌, length, get_or, set, Some, None, Ok, Err, vec_items, vec_len, Result, sym, refl, ap, ◌∙◌, subst, inl, inr, arith, length-set}
use mathlib.Core.Bool.{false≢true}
use Rattle.std.proofs.lemmas.List.{get_or-set_other}
use Rattle.std.proofs.lemmas.Bool.{both_ways}
use Rattle.network.specs.Least.{Least, NothingWrong}
use Rattle.times.specs.Kind.{Kind, Laws, LongerLater}
use Rattle.settling.specs.declared.latest.Latest.{Latest}
use Rattle.search.specs.Search.{Vector, Outcome, Shows, Searched}
use Rattle.search.specs.Worst.{Reached, Worst}
use Rattle.seeking.specs.declared.seek.Looked.{Looked}
use Rattle.seeking.specs.Seeking.{Late, NoneLate, settle_time, final_value, seek_search, worst_search}
use Rattle.seeking.proofs.Instance.{seek_stands, worst_of_lines}
use Rattle.turns.specs.declared.answers.Greatest.{Greatest}
use Rattle.turns.specs.declared.fault.StudyFault.{StudyFault}
use Rattle.turns.specs.Answers.{Past, accepted, forgets, nothing_in, FoundNothing, Known, SettleTold, SearchedLooks, Answers}
use Rattle.turns.specs.Asked.{Asked, settle, seek, worst, shorten, lengthen, tie, untie, Told, told_settle, told_seek, told_worst, told_change}
use Rattle.turns.specs.Plain.{Plain, delayed, tied, is_one, written}
use Rattle.turns.specs.Refusals.{number, Wrong}
use Rattle.turns.specs.Runs.{After, calls_in}
use Rattle.turns.proofs.Accepted.{shorten_fits, shorten_no_more, tie_untied, seek_present, seek_bit, worst_present}
use Rattle.turns.proofs.Findings.{tie_none_late, shorten_none_late}
use Rattle.turns.proofs.Once.{after_once}
use Rattle.study.specs.declared.study.Study.{Study}
use Rattle.study.specs.Standing.{plain_of, ceilings_of, place, ceiling, covers, Cleared, Stands, Promises, Unchanged, Keeps}
use Rattle.study.proofs.Places.{lawful_lines, ties_counted}
use Rattle.study.proofs.Standing.{covered_known, unchanged_plain, stands_turned, stands_idle, stands_covered, stands_recorded}

change_finds : {Time : Type 0} (kind : Kind Time) (call : Asked Time) (outcome : Result (Unit {0}) StudyFault) (line value : ℕ) (bound : Time) → FoundNothing kind line value bound call (told_change outcome) → ⊥
change_finds kind call outcome line value bound f = elim f [ ]

settle_finds : {Time : Type 0} (kind : Kind Time) (call : Asked Time) (outcome : Result (Unit {0}) StudyFault) (values : List Bool) (times : List Time) (line value : ℕ) (bound : Time) → FoundNothing kind line value bound call (told_settle outcome values times) → ⊥
settle_finds kind call outcome values times line value bound f = elim f [ ]

refused_finds : {Time : Type 0} (kind : Kind Time) (call : Asked Time) (fault : StudyFault) (vector : List ℕ) (work : List (Latest Time)) (line value : ℕ) (bound : Time) → FoundNothing kind line value bound call (told_seek (Err fault) vector work) → ⊥
refused_finds kind call fault vector work line value bound f = elim f [ ]

-- what a seek comes to that finds a vector, by the line's settle time under it
abbrev pub found_at : {Time : Type 0} → Time → ℕ → Looked Time
found_at time looks = record { found = Some time; looks = looks }

at_finds : {Time : Type 0} (kind : Kind Time) (call : Asked Time) (time : Time) (looks : ℕ) (vector : List ℕ) (work : List (Latest Time)) (line value : ℕ) (bound : Time) → FoundNothing kind line value bound call (told_seek (Ok (found_at time looks)) vector work) → ⊥
at_finds kind call time looks vector work line value bound f = elim f [ ]

worst_finds : {Time : Type 0} (kind : Kind Time) (call : Asked Time) (outcome : Result (Greatest Time) StudyFault) (vector : List ℕ) (work : List (Latest Time)) (line value : ℕ) (bound : Time) → FoundNothing kind line value bound call (told_worst outcome vector work) → ⊥
worst_finds kind call outcome vector work line value bound f = elim f [ ]

pub unchanged_self : {Time : Type 0} (study : Study Time) → Unchanged study study
unchanged_self study = record { lines = refl; inputs = refl; ties = refl; ceilings = refl }

-- what every call keeps

pub keeps_refused : {Time X : Type 0} (before after : Study Time) (fault : StudyFault) → Unchanged before after → Keeps {X = X} before after (Err fault)
keeps_refused before after fault u = record { further = λ at past. ap (λ c. get_or (vec_items c) at None) u.ceilings; refused = λ e. u }

pub keeps_ceilings : {Time X : Type 0} (before after : Study Time) (x : X) → ceilings_of after ≡ ceilings_of before → Keeps before after (Ok x)
keeps_ceilings before after x same = record { further = λ at past. ap (λ c. get_or c at None) same; refused = λ e. absurd (false≢true (sym e)) }

pub keeps_cleared : {Time X : Type 0} (before after : Study Time) (x : X) → Cleared (2 * vec_len before.lines) (ceilings_of before) (ceilings_of after) → Keeps before after (Ok x)
keeps_cleared before after x cleared = record { further = cleared.further; refused = λ e. absurd (false≢true (sym e)) }

pub keeps_recorded : {Time X : Type 0} (before after : Study Time) (x : X) (line value : ℕ) (bound : Time) → line < vec_len before.lines → value ≤ 1 → ceilings_of after ≡ set (ceilings_of before) (place line value) (Some bound) → Keeps before after (Ok x)
keeps_recorded before after x line value bound present bit same =
    record {
      further = λ at past. ap (λ c. get_or c at None) same ∙ get_or-set_other (ceilings_of before) (place line value) at (Some bound) None (omega arith);
      refused = λ e. absurd (false≢true (sym e));
    }

module _ {Time : Type 0} (kind : Kind Time) (laws : Laws kind) (before after : Study Time) where
  -- a turn, as it is seen on the study's own plain study
  abbrev TurnsTo : Asked Time → Told Time → Plain → Past Time → Type 0
  TurnsTo call reply opened past = Answers kind (plain_of before) past call reply × Stands kind opened (record { call = call; reply = reply } ∷ past) after

  promise : (call : Asked Time) (reply : Told Time) → ((opened : Plain) (past : Past Time) → Stands kind opened past before → TurnsTo call reply opened past) → Promises kind before after call reply
  promise call reply turns opened plain past s a =
      (subst (λ (p : Plain). Answers kind p past call reply) (after_once opened (calls_in past) (plain_of before) plain s.plain a) (turns opened past s).0, (turns opened past s).1)

  -- refused calls

  refused_stands : (call : Asked Time) (reply : Told Time) (fault : StudyFault) → Least (Wrong (plain_of before) call) (number fault) → Unchanged before after → accepted reply ≡ false
      → ((line value : ℕ) (bound : Time) → FoundNothing kind line value bound call reply → ⊥)
      → (opened : Plain) (past : Past Time) → Stands kind opened past before → Stands kind opened (record { call = call; reply = reply } ∷ past) after
  refused_stands call reply fault least u no_reply not_found opened past s =
      stands_idle kind opened past before after call reply s (After.refused s.plain (number fault) least.fits) (unchanged_plain before after u) (ap vec_items u.ceilings) not_found
      (λ line e f. both_ways (accepted reply) no_reply e)

  pub refused_change : (call : Asked Time) (fault : StudyFault) → ((past : Past Time) → Least (Wrong (plain_of before) call) (number fault) → Answers kind (plain_of before) past call (told_change (Err fault)))
      → Least (Wrong (plain_of before) call) (number fault) → Unchanged before after → Promises kind before after call (told_change (Err fault))
  refused_change call fault answer least u =
      promise call (told_change (Err fault)) (λ opened past s. (answer past least, refused_stands call (told_change (Err fault)) fault least u refl (change_finds kind call (Err fault)) opened past s))

  pub refused_settle : (vector : List ℕ) (values : List Bool) (times : List Time) (fault : StudyFault) → Least (Wrong (plain_of before) (settle vector values times)) (number fault) → Unchanged before after
      → Promises kind before after (settle vector values times) (told_settle (Err fault) values times)
  refused_settle vector values times fault least u =
      promise (settle vector values times) (told_settle (Err fault) values times)
      (λ opened past s. (Answers.to_settle (least, refl, refl), refused_stands (settle vector values times) (told_settle (Err fault) values times) fault least u refl (settle_finds kind (settle vector values times) (Err fault) values times) opened past s))

  pub refused_seek : (line value : ℕ) (bound : Time) (vector : List ℕ) (work : List (Latest Time)) (fault : StudyFault) → Least (Wrong (plain_of before) (seek line value bound vector work)) (number fault) → Unchanged before after
      → Promises kind before after (seek line value bound vector work) (told_seek (Err fault) vector work)
  refused_seek line value bound vector work fault least u =
      promise (seek line value bound vector work) (told_seek (Err fault) vector work)
      (λ opened past s. (Answers.to_seek (least, refl, refl), refused_stands (seek line value bound vector work) (told_seek (Err fault) vector work) fault least u refl (refused_finds kind (seek line value bound vector work) fault vector work) opened past s))

  pub refused_worst : (line : ℕ) (vector : List ℕ) (work : List (Latest Time)) (fault : StudyFault) → Least (Wrong {Time = Time} (plain_of before) (worst line vector work)) (number fault) → Unchanged before after
      → Promises kind before after (worst line vector work) (told_worst (Err fault) vector work)
  refused_worst line vector work fault least u =
      promise (worst line vector work) (told_worst (Err fault) vector work)
      (λ opened past s. (Answers.to_worst (least, refl, refl), refused_stands (worst line vector work) (told_worst (Err fault) vector work) fault least u refl (worst_finds kind (worst line vector work) (Err fault) vector work) opened past s))

  -- accepted changes

  module _ (line delay : ℕ) (u : Unit {0}) where
    pub accepted_shorten : LongerLater kind → NothingWrong (Wrong {Time = Time} (plain_of before) (shorten line delay)) → plain_of after ≡ delayed (plain_of before) line delay → ceilings_of after ≡ ceilings_of before
        → Promises kind before after (shorten line delay) (told_change (Ok u))
    accepted_shorten longer none e same =
        promise (shorten line delay) (told_change (Ok u)) (λ opened past s. (
          Answers.to_shorten none,
          stands_turned kind opened past before after (shorten line delay) (told_change (Ok u)) s
              (subst (After opened (shorten line delay ∷ calls_in past)) (sym e) (After.accepted s.plain none))
              (ap (λ p. length p.lines) e ∙ length-set (plain_of before).lines line _)
              (change_finds kind (shorten line delay) (Ok u))
              (λ l lt. inr (
                (λ _ f. false≢true f),
                (λ value. ap (λ c. get_or c (place l value) None) same),
                λ value bound quiet.
                    subst (λ (p : Plain). NoneLate kind p.lines p.ties l value bound) (sym e)
                    (shorten_none_late kind laws longer (plain_of before).lines (lawful_lines before) (plain_of before).ties line delay (shorten_fits (plain_of before) line delay none) (shorten_no_more (plain_of before) line delay none) l value bound lt quiet),
              )),
        ))

  -- a change after which nothing is known
  freed : (call : Asked Time) (u : Unit {0}) (plain : Plain) → ((line : ℕ) → forgets call line ≡ true) → plain_of after ≡ plain → length plain.lines ≡ length (plain_of before).lines → Cleared (2 * vec_len before.lines) (ceilings_of before) (ceilings_of after)
      → (opened : Plain) (past : Past Time) → Stands kind opened past before → After opened (call ∷ calls_in past) plain → Stands kind opened (record { call = call; reply = told_change (Ok u) } ∷ past) after
  freed call u plain forgotten e long cleared opened past s a =
      stands_turned kind opened past before after call (told_change (Ok u)) s (subst (After opened (call ∷ calls_in past)) (sym e) a) (ap (λ p. length p.lines) e ∙ long) (change_finds kind call (Ok u))
      (λ l lt. inl (refl, forgotten l, λ value bit. let len = before.lines.ok.0 in cleared.none (place l value) (omega (arith, len))))

  pub accepted_lengthen : (line delay : ℕ) (u : Unit {0}) → NothingWrong (Wrong {Time = Time} (plain_of before) (lengthen line delay)) → plain_of after ≡ delayed (plain_of before) line delay → Cleared (2 * vec_len before.lines) (ceilings_of before) (ceilings_of after)
      → Promises kind before after (lengthen line delay) (told_change (Ok u))
  accepted_lengthen line delay u none e cleared =
      promise (lengthen line delay) (told_change (Ok u)) (λ opened past s.
      (Answers.to_lengthen none, freed (lengthen line delay) u (delayed (plain_of before) line delay) (λ l. refl) e (length-set (plain_of before).lines line _) cleared opened past s (After.accepted s.plain none)))

  pub accepted_tie : (line value : ℕ) (u : Unit {0}) → NothingWrong (Wrong {Time = Time} (plain_of before) (tie line value)) → plain_of after ≡ tied (plain_of before) line (Some (is_one value)) → ceilings_of after ≡ ceilings_of before
      → Promises kind before after (tie line value) (told_change (Ok u))
  accepted_tie line value u none e same =
      promise (tie line value) (told_change (Ok u)) (λ opened past s. (
        Answers.to_tie none,
        stands_turned kind opened past before after (tie line value) (told_change (Ok u)) s
            (subst (After opened (tie line value ∷ calls_in past)) (sym e) (After.accepted s.plain none))
            (ap (λ p. length p.lines) e) (change_finds kind (tie line value) (Ok u))
            (λ l lt. inr (
              (λ _ f. false≢true f),
              (λ x. ap (λ c. get_or c (place l x) None) same),
              λ x bound quiet.
                  subst (λ (p : Plain). NoneLate kind p.lines p.ties l x bound) (sym e)
                  (tie_none_late kind laws (plain_of before).lines (lawful_lines before) (plain_of before).ties line (is_one value) (tie_untied (plain_of before) line value none) l x bound lt quiet),
            )),
      ))

  pub accepted_untie : (line : ℕ) (u : Unit {0}) → NothingWrong (Wrong {Time = Time} (plain_of before) (untie line)) → plain_of after ≡ tied (plain_of before) line None → Cleared (2 * vec_len before.lines) (ceilings_of before) (ceilings_of after)
      → Promises kind before after (untie line) (told_change (Ok u))
  accepted_untie line u none e cleared =
      promise (untie line) (told_change (Ok u)) (λ opened past s.
      (Answers.to_untie none, freed (untie line) u (tied (plain_of before) line None) (λ l. refl) e refl cleared opened past s (After.accepted s.plain none)))

  -- accepted seeks

  module _ (line value : ℕ) (bound : Time) (vector : List ℕ) (work work' : List (Latest Time)) (none : NothingWrong (Wrong (plain_of before) (seek line value bound vector work))) (as_many : length work' ≡ length work) (same : plain_of after ≡ plain_of before) where
    present : line < length (plain_of before).lines
    present = seek_present (plain_of before) line value (length vector) (length work) none

    bit : value ≤ 1
    bit = seek_bit (plain_of before) line value (length vector) (length work) none

    pub accepted_covered : covers kind bound (ceiling before line value) ≡ true → ceilings_of after ≡ ceilings_of before → Promises kind before after (seek line value bound vector work) (told_seek (Ok (nothing_in 0)) vector work')
    accepted_covered covered kept =
        promise (seek line value bound vector work) (told_seek (Ok (nothing_in 0)) vector work') (λ opened past s.
        let known = covered_known kind laws opened past before s line value bound present bit covered in
        let quiet = s.known_none_late line value bound known in (
          Answers.to_seek (none, record { shown = (quiet, refl); known_nothing = λ k. refl; no_looks_known = λ e. known; searched = λ unknown. absurd (unknown known) }, as_many),
          stands_covered kind laws opened past before after line value bound vector vector work work' 0 s none same present bit quiet covered kept,
        ))

    abbrev outcome : Outcome
    outcome = seek_search kind (plain_of before).lines (plain_of before).ties line (is_one value) bound

    module _ (uncovered : covers kind bound (ceiling before line value) ≡ false) where
      searched : Searched (Late kind (plain_of before).lines (plain_of before).ties line (is_one value) bound) (plain_of before).ties outcome
      searched = seek_stands kind laws (plain_of before).lines (plain_of before).ties line (is_one value) bound (lawful_lines before) (ties_counted before) present

      unknown : (opened : Plain) (past : Past Time) → Stands kind opened past before → Known kind past line value bound → ⊥
      unknown opened past s k = both_ways (covers kind bound (ceiling before line value)) uncovered (s.known_covered line value bound k)

      the_looks : SearchedLooks kind (plain_of before) line value bound outcome.looks
      the_looks = record { of_search = refl; one_look = searched.one_look; few_looks = searched.few_looks }

      some_looks : outcome.looks ≡ 0 → ⊥
      some_looks e = omega (arith, searched.one_look)

      pub accepted_found : (w : Vector) → outcome.found ≡ Some w → ceilings_of after ≡ ceilings_of before
          → Promises kind before after (seek line value bound vector work) (told_seek (Ok (found_at (settle_time kind (plain_of before).lines (plain_of before).ties line w) outcome.looks)) (written w vector) work')
      accepted_found w is kept =
          let time = settle_time kind (plain_of before).lines (plain_of before).ties line w in
          promise (seek line value bound vector work) (told_seek (Ok (found_at time outcome.looks)) (written w vector) work') (λ opened past s. (
            Answers.to_seek (
              none,
              record {
                shown = (w, subst (Shows (Late kind (plain_of before).lines (plain_of before).ties line (is_one value) bound) (plain_of before).ties) is searched.shows, refl, refl);
                known_nothing = λ k. absurd (unknown opened past s k);
                no_looks_known = λ e. absurd (some_looks e);
                searched = λ _. the_looks;
              },
              as_many,
            ),
            stands_idle kind opened past before after (seek line value bound vector work) (told_seek (Ok (found_at time outcome.looks)) (written w vector) work') s (After.accepted s.plain none) same kept
                (at_finds kind (seek line value bound vector work) time outcome.looks (written w vector) work') (λ l e f. false≢true f),
          ))

      pub accepted_nothing : outcome.found ≡ None → ceilings_of after ≡ set (ceilings_of before) (place line value) (Some bound)
          → Promises kind before after (seek line value bound vector work) (told_seek (Ok (nothing_in outcome.looks)) vector work')
      accepted_nothing is recorded =
          let quiet = subst (Shows (Late kind (plain_of before).lines (plain_of before).ties line (is_one value) bound) (plain_of before).ties) is searched.shows in
          promise (seek line value bound vector work) (told_seek (Ok (nothing_in outcome.looks)) vector work') (λ opened past s. (
            Answers.to_seek (
              none,
              record {
                shown = (quiet, refl);
                known_nothing = λ k. absurd (unknown opened past s k);
                no_looks_known = λ e. absurd (some_looks e);
                searched = λ _. the_looks;
              },
              as_many,
            ),
            stands_recorded kind laws opened past before after line value bound vector vector work work' outcome.looks s none same present bit quiet uncovered recorded,
          ))

-- questions that leave the study as it is

module _ {Time : Type 0} (kind : Kind Time) (laws : Laws kind) (study : Study Time) where
  pub accepted_settle : (vector : List ℕ) (values values' : List Bool) (times times' : List Time) (u : Unit {0}) → NothingWrong (Wrong (plain_of study) (settle vector values times)) → SettleTold kind (plain_of study) vector values values' times times'
      → Promises kind study study (settle vector values times) (told_settle (Ok u) values' times')
  accepted_settle vector values values' times times' u none told =
      promise kind laws study study (settle vector values times) (told_settle (Ok u) values' times') (λ opened past s. (
        Answers.to_settle (none, told),
        stands_idle kind opened past study study (settle vector values times) (told_settle (Ok u) values' times') s (After.accepted s.plain none) refl refl
            (settle_finds kind (settle vector values times) (Ok u) values' times') (λ l e f. false≢true f),
      ))

  pub accepted_worst : (line : ℕ) (vector : List ℕ) (work work' : List (Latest Time)) (reached : Reached Time) (value : Bool) → NothingWrong (Wrong {Time = Time} (plain_of study) (worst line vector work)) → length work' ≡ length work
      → worst_search kind (plain_of study).lines (plain_of study).ties line ≡ Some reached → value ≡ final_value kind (plain_of study).lines (plain_of study).ties line reached.at
      → Promises kind study study (worst line vector work) (told_worst (Ok (record { time = reached.time; value = value })) (written reached.at vector) work')
  accepted_worst line vector work work' reached value none as_many is_worst value_is =
      let present = worst_present (plain_of study) line (length vector) (length work) none in
      let worst_is = worst_of_lines kind laws (plain_of study).lines (plain_of study).ties line (lawful_lines study) (ties_counted study) present in
      let equal : worst_is.0 ≡ reached = some_same (sym worst_is.1 ∙ is_worst) in
      let greatest : Greatest Time = record { time = reached.time; value = value } in
      promise kind laws study study (worst line vector work) (told_worst (Ok greatest) (written reached.at vector) work') (λ opened past s. (
        Answers.to_worst (none, (reached.at, subst (λ (r : Reached Time). Worst kind.at_or_before (settle_time kind (plain_of study).lines (plain_of study).ties line) (plain_of study).ties r.at r.time) equal worst_is.2, value_is, refl), as_many),
        stands_idle kind opened past study study (worst line vector work) (told_worst (Ok greatest) (written reached.at vector) work') s (After.accepted s.plain none) refl refl
            (worst_finds kind (worst line vector work) (Ok greatest) (written reached.at vector) work') (λ l e f. false≢true f),
      ))
    where
      some_same : {X : Type 0} {a b : X} → Some a ≡ Some b → a ≡ b
      some_same e = cc
