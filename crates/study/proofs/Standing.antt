-- What ties a study to the turns that it has had: how a turn leaves what is known. Assumes nothing.
use Rattle.std.proofs.Common.{◌≡◌, ℕ, ◌*◌, ◌<◌, ◌≤◌, Bool, true, false, ◌≢◌, ◌⊎◌, List, [], ◌∷◌, length, get_or, take, set, Some, None, Ok, vec_items, vec_len, Option, sym, refl, ap, ◌∙◌, subst, inl, inr, ⊎_elim, arith}
use mathlib.Core.Bool.{false≢true}
use Rattle.std.proofs.lemmas.List.{get_or-set_same, get_or-set_other}
use Rattle.std.proofs.lemmas.Bool.{cases_order, both_ways}
use Rattle.network.specs.Least.{NothingWrong}
use Rattle.times.specs.Kind.{Kind, Laws, NoLater}
use Rattle.settling.specs.declared.latest.Latest.{Latest}
use Rattle.seeking.specs.Seeking.{NoneLate}
use Rattle.turns.specs.Answers.{Turn, Past, accepted, forgets, nothing_in, FoundNothing, found_nothing, Known}
use Rattle.turns.specs.Asked.{Asked, seek, Told, told_seek}
use Rattle.turns.specs.Plain.{Plain, is_one}
use Rattle.turns.specs.Refusals.{Wrong}
use Rattle.turns.specs.Runs.{After, calls_in}
use Rattle.turns.proofs.Findings.{later_none_late, known_later}
use Rattle.study.specs.declared.study.Study.{Study}
use Rattle.study.specs.Standing.{plain_of, ceilings_of, place, ceiling, covers, Stands, Unchanged}

-- ceilings and bounds

module _ {Time : Type 0} (kind : Kind Time) (laws : Laws kind) where
  pub covers_later : (o : Option Time) (b c : Time) → covers kind b o ≡ true → NoLater kind b c → covers kind c o ≡ true
  covers_later None b c h le = absurd (false≢true h)
  covers_later (Some x) b c h le = laws.transitive x b c h le

  covers_some : (o : Option Time) (b : Time) → covers kind b o ≡ true → (x : Time) × (o ≡ Some x) × NoLater kind x b
  covers_some None b h = absurd (false≢true h)
  covers_some (Some x) b h = (x, refl, h)

  -- a bound that the ceiling did not cover is no later than one that it does
  uncovered_before : (o : Option Time) (b c : Time) → covers kind b o ≡ false → covers kind c o ≡ true → NoLater kind b c
  uncovered_before None b c u h = absurd (false≢true h)
  uncovered_before (Some x) b c u h = ⊎_elim (λ e. absurd (both_ways (kind.at_or_before x b) u e)) (λ e. laws.transitive b x c e h) (laws.total x b)

  -- a bound at or after the ceiling is known
  pub covered_known : (opened : Plain) (past : Past Time) (study : Study Time) → Stands kind opened past study → (line value : ℕ) (bound : Time) → line < length (plain_of study).lines → value ≤ 1 → covers kind bound (ceiling study line value) ≡ true → Known kind past line value bound
  covered_known opened past study s line value bound present bit covered =
      let at = covers_some (ceiling study line value) bound covered in
      known_later kind laws past line value at.0 bound at.2 (s.ceiling_known line value at.0 present bit at.1)

-- the plain study of a study that is unchanged
pub unchanged_plain : {Time : Type 0} (before after : Study Time) → Unchanged before after → plain_of after ≡ plain_of before
unchanged_plain before after u = λ i. record { lines = vec_items (u.lines i); ties = take (u.inputs i) (u.ties i) }

same_place : (l x line value : ℕ) → x ≤ 1 → value ≤ 1 → place l x ≡ place line value → (l ≡ line) × (x ≡ value)
same_place l x line value a b e = (omega arith, omega arith)

pub stands_opened : {Time : Type 0} (kind : Kind Time) (opened : Plain) (study : Study Time) → plain_of study ≡ opened
    → ((at : ℕ) → at < 2 * vec_len study.lines → get_or (ceilings_of study) at None ≡ None) → Stands kind opened [] study
stands_opened kind opened study e none =
    record {
      plain = subst (After opened []) (sym e) After.at_first;
      ceiling_known = λ line value bound lt bit q.
          let len = study.lines.ok.0 in
          let absent = none (place line value) (omega (arith, len)) in
          let z : ◌≡◌ {A = ℕ} 0 1 = cc in absurd (omega arith);
      known_covered = λ line value bound k. absurd k;
      known_present = λ line value bound k. absurd k;
      known_none_late = λ line value bound k. absurd k;
    }

module _ {Time : Type 0} (kind : Kind Time) (opened : Plain) (past : Past Time) (before after : Study Time) (call : Asked Time) (reply : Told Time) (s : Stands kind opened past before) where
  -- a turn makes what was found of a line void, and removes its ceilings
  abbrev pub Forgotten : ℕ → Type 0
  Forgotten line = (accepted reply ≡ true) × (forgets call line ≡ true) × ((value : ℕ) → value ≤ 1 → ceiling after line value ≡ None)

  -- or it keeps the line's ceilings, and what they say
  abbrev pub Kept : ℕ → Type 0
  Kept line =
      (accepted reply ≡ true → forgets call line ≡ true → ⊥)
      × ((value : ℕ) → ceiling after line value ≡ ceiling before line value)
      × ((value : Bool) (bound : Time) → NoneLate kind (plain_of before).lines (plain_of before).ties line value bound → NoneLate kind (plain_of after).lines (plain_of after).ties line value bound)

  pub stands_turned : After opened (call ∷ calls_in past) (plain_of after)
      → length (plain_of after).lines ≡ length (plain_of before).lines
      → ((line value : ℕ) (bound : Time) → FoundNothing kind line value bound call reply → ⊥)
      → ((line : ℕ) → line < length (plain_of before).lines → Forgotten line ⊎ Kept line)
      → Stands kind opened (record { call = call; reply = reply } ∷ past) after
  stands_turned a long not_found each =
      record {
        plain = a;
        ceiling_known = λ line value bound lt bit q. by_ceiling line value bound (omega arith) bit q (each line (omega arith));
        known_covered = λ line value bound k. covered line value bound k;
        known_present = λ line value bound k. present line value bound k;
        known_none_late = λ line value bound k. none line value bound k;
      }
    where
      by_ceiling : (line value : ℕ) (bound : Time) → line < length (plain_of before).lines → value ≤ 1 → ceiling after line value ≡ Some bound → Forgotten line ⊎ Kept line → Known kind (record { call = call; reply = reply } ∷ past) line value bound
      by_ceiling line value bound lt bit q (inl f) = let absent = f.2 value bit in let z : ◌≡◌ {A = ℕ} 0 1 = cc in absurd (omega arith)
      by_ceiling line value bound lt bit q (inr k) = inr (k.0, s.ceiling_known line value bound lt bit (sym (k.1 value) ∙ q))

      present : (line value : ℕ) (bound : Time) → Known kind (record { call = call; reply = reply } ∷ past) line value bound → (line < length (plain_of after).lines) × (value ≤ 1)
      present line value bound (inl f) = absurd (not_found line value bound f)
      present line value bound (inr k) = let h = s.known_present line value bound k.1 in (omega arith, h.1)

      covered : (line value : ℕ) (bound : Time) → Known kind (record { call = call; reply = reply } ∷ past) line value bound → covers kind bound (ceiling after line value) ≡ true
      covered line value bound (inl f) = absurd (not_found line value bound f)
      covered line value bound (inr k) =
          ⊎_elim (λ f. absurd (k.0 f.0 f.1)) (λ kept. ap (covers kind bound) (kept.1 value) ∙ s.known_covered line value bound k.1) (each line (s.known_present line value bound k.1).0)

      none : (line value : ℕ) (bound : Time) → Known kind (record { call = call; reply = reply } ∷ past) line value bound → NoneLate kind (plain_of after).lines (plain_of after).ties line (is_one value) bound
      none line value bound (inl f) = absurd (not_found line value bound f)
      none line value bound (inr k) =
          ⊎_elim (λ f. absurd (k.0 f.0 f.1)) (λ kept. kept.2 (is_one value) bound (s.known_none_late line value bound k.1)) (each line (s.known_present line value bound k.1).0)

  -- a turn that leaves the plain study and the ceilings
  pub stands_idle : After opened (call ∷ calls_in past) (plain_of before) → plain_of after ≡ plain_of before → ceilings_of after ≡ ceilings_of before
      → ((line value : ℕ) (bound : Time) → FoundNothing kind line value bound call reply → ⊥)
      → ((line : ℕ) → accepted reply ≡ true → forgets call line ≡ true → ⊥)
      → Stands kind opened (record { call = call; reply = reply } ∷ past) after
  stands_idle a e same not_found not_forgotten =
      stands_turned (subst (After opened (call ∷ calls_in past)) (sym e) a) (ap (λ p. length p.lines) e) not_found
      (λ line lt. inr (not_forgotten line, (λ value. ap (λ c. get_or c (place line value) None) same), λ value bound none. subst (λ (p : Plain). NoneLate kind p.lines p.ties line value bound) (sym e) none))

-- a seek that found nothing
module _ {Time : Type 0} (kind : Kind Time) (laws : Laws kind) (opened : Plain) (past : Past Time) (before after : Study Time) (line value : ℕ) (bound : Time) (vector vector' : List ℕ) (work work' : List (Latest Time)) (looks : ℕ) (s : Stands kind opened past before)
    (none_wrong : NothingWrong (Wrong (plain_of before) (seek line value bound vector work))) (e : plain_of after ≡ plain_of before) (present : line < length (plain_of before).lines) (bit : value ≤ 1)
    (none : NoneLate kind (plain_of before).lines (plain_of before).ties line (is_one value) bound) where
  abbrev turn : Turn Time
  turn = record { call = seek line value bound vector work; reply = told_seek (Ok (nothing_in looks)) vector' work' }

  same_length : length (plain_of after).lines ≡ length (plain_of before).lines
  same_length = ap (λ p. length p.lines) e

  next : After opened (calls_in (turn ∷ past)) (plain_of after)
  next = subst (After opened (calls_in (turn ∷ past))) (sym e) (After.accepted s.plain none_wrong)

  still_present : (l x : ℕ) (b : Time) → Known kind (turn ∷ past) l x b → (l < length (plain_of after).lines) × (x ≤ 1)
  still_present l x b (inl (found_nothing h)) = let n = same_length in (omega arith, bit)
  still_present l x b (inr k) = let n = same_length in let h = s.known_present l x b k.1 in (omega arith, h.1)

  still_none : (l x : ℕ) (b : Time) → Known kind (turn ∷ past) l x b → NoneLate kind (plain_of after).lines (plain_of after).ties l (is_one x) b
  still_none l x b (inl (found_nothing h)) = subst (λ (p : Plain). NoneLate kind p.lines p.ties l (is_one x) b) (sym e) (later_none_late kind laws (plain_of before).lines (plain_of before).ties l (is_one x) bound b h none)
  still_none l x b (inr k) = subst (λ (p : Plain). NoneLate kind p.lines p.ties l (is_one x) b) (sym e) (s.known_none_late l x b k.1)

  -- by the ceiling, which stays
  pub stands_covered : covers kind bound (ceiling before line value) ≡ true → ceilings_of after ≡ ceilings_of before → Stands kind opened (turn ∷ past) after
  stands_covered cov same =
      record {
        plain = next;
        ceiling_known = λ l x b lt bit q. let n = same_length in inr ((λ _ f. false≢true f), s.ceiling_known l x b (omega arith) bit (ap (λ c. get_or c (place l x) None) (sym same) ∙ q));
        known_covered = covered;
        known_present = still_present;
        known_none_late = still_none;
      }
    where
      covered : (l x : ℕ) (b : Time) → Known kind (turn ∷ past) l x b → covers kind b (ceiling after l x) ≡ true
      covered l x b (inl (found_nothing h)) = ap (λ c. covers kind b (get_or c (place l x) None)) same ∙ covers_later kind laws (ceiling before l x) bound b cov h
      covered l x b (inr k) = ap (λ c. covers kind b (get_or c (place l x) None)) same ∙ s.known_covered l x b k.1

  -- by the search: the bound becomes the ceiling
  pub stands_recorded : covers kind bound (ceiling before line value) ≡ false → ceilings_of after ≡ set (ceilings_of before) (place line value) (Some bound) → Stands kind opened (turn ∷ past) after
  stands_recorded uncovered written =
      record {
        plain = next;
        ceiling_known = known;
        known_covered = covered;
        known_present = still_present;
        known_none_late = still_none;
      }
    where
      within : place line value < length (ceilings_of before)
      within = let a = before.lines.ok.0 in let b = before.ceilings.ok.0 in let c = before.room in omega (arith, a, b, c)

      here : ceiling after line value ≡ Some bound
      here = ap (λ c. get_or c (place line value) None) written ∙ get_or-set_same (ceilings_of before) (place line value) (Some bound) None within

      there : (l x : ℕ) → place l x ≢ place line value → ceiling after l x ≡ ceiling before l x
      there l x other = ap (λ c. get_or c (place l x) None) written ∙ get_or-set_other (ceilings_of before) (place line value) (place l x) (Some bound) None other

      apart : (l x : ℕ) → x ≤ 1 → ((l ≡ line) × (x ≡ value)) ⊎ (place l x ≢ place line value)
      apart l x small =
          ⊎_elim (λ q. inl (same_place l x line value small bit q)) (⊎_elim (λ lt. inr (omega arith)) (λ gt. inr (omega arith))) (cases_order (place l x) (place line value))

      reflexive : NoLater kind bound bound
      reflexive = ⊎_elim (λ h. h) (λ h. h) (laws.total bound bound)

      just : (l x : ℕ) (b : Time) → (l ≡ line) × (x ≡ value) → NoLater kind bound b → Known kind (turn ∷ past) l x b
      just l x b (p, q) h = subst (λ m. Known kind (turn ∷ past) m x b) (sym p) (subst (λ n. Known kind (turn ∷ past) line n b) (sym q) (inl (found_nothing h)))

      known : (l x : ℕ) (b : Time) → l < length (plain_of after).lines → x ≤ 1 → ceiling after l x ≡ Some b → Known kind (turn ∷ past) l x b
      known l x b lt small q =
          ⊎_elim
          (λ same.
          let at_here : ceiling after l x ≡ Some bound = ap (λ m. ceiling after m x) same.0 ∙ ap (ceiling after line) same.1 ∙ here in
          let equal : bound ≡ b = cc in
          just l x b same (subst (NoLater kind bound) equal reflexive))
          (λ other. let n = same_length in inr ((λ _ f. false≢true f), s.ceiling_known l x b (omega arith) small (sym (there l x other) ∙ q)))
          (apart l x small)

      covered : (l x : ℕ) (b : Time) → Known kind (turn ∷ past) l x b → covers kind b (ceiling after l x) ≡ true
      covered l x b (inl (found_nothing h)) = ap (covers kind b) here ∙ h
      covered l x b (inr k) =
          ⊎_elim
          (λ same.
          let at_here : ceiling after l x ≡ Some bound = ap (λ m. ceiling after m x) same.0 ∙ ap (ceiling after line) same.1 ∙ here in
          let old : covers kind b (ceiling before line value) ≡ true = ap (λ n. covers kind b (ceiling before line n)) (sym same.1) ∙ ap (λ m. covers kind b (ceiling before m x)) (sym same.0) ∙ s.known_covered l x b k.1 in
          ap (covers kind b) at_here ∙ uncovered_before kind laws (ceiling before line value) bound b uncovered old)
          (λ other. ap (covers kind b) (there l x other) ∙ s.known_covered l x b k.1)
          (apart l x (s.known_present l x b k.1).1)
