-- Latest times bound settle times, and are exact where everything is decided; what that says of cut settings. Assumes nothing.
use Rattle.std.proofs.Common.{◌≡◌, ℕ, ◌^◌, ◌<◌, Bool, true, false, not, length, is_some, Some, None, Option, unwrap_or, sym, refl, ap, ◌∙◌, subst, true≢false, arith}
use mathlib.Core.Bool.{false≢true}
use Rattle.std.proofs.lemmas.Bool.{not-false}
use Rattle.lines.specs.declared.line.Cell.{Cell}
use Rattle.lines.specs.declared.line.Driver.{Driver}
use Rattle.lines.specs.declared.line.Driver.TheVariants.{Input, Output}
use Rattle.lines.specs.declared.line.Line.{Line}
use Rattle.lines.specs.Lines.{no_line, line_at, feeder, inputs, delay_at, LawfulDriver}
use Rattle.lines.proofs.Lawfuls.{lawful_at}
use Rattle.times.specs.Kind.{Kind, NoLater, Laws}
use Rattle.cells.specs.Tables.{bit}
use Rattle.cells.specs.Deciding.{Decided, decide}
use Rattle.cells.proofs.Rows.{row_below, bit_row, row_of_bits}
use Rattle.cells.proofs.Forcing.{same_true, true_same}
use Rattle.cells.proofs.DecidingLaws.{never_later, decide_decided, decided_earlier}
use Rattle.settling.specs.declared.latest.Latest.{Latest}
use Rattle.settling.specs.declared.settle.Settled.{Settled}
use Rattle.settling.specs.Settle.{input_time, pin_row, values_of, CellSettles, LineRule, settled_line, settled}
use Rattle.settling.specs.Latest.{latest_at, InputLatest, latest_pin, RowGives, OutputLatest, LatestRule, latest_line, allowed, latest, AgreesWith, DecidesAll, LatestBounds, LatestExact, cut, CutHidesNone, UncutIsFound}
use Rattle.settling.proofs.WorkedOut.{line_by_line}
use Rattle.settling.proofs.SettleRules.{follows}
use Rattle.settling.proofs.LatestRules.{latest_follows}

not_itself : (value : Bool) → value ≡ not value → ⊥
not_itself true e = true≢false e
not_itself false e = false≢true e

module _ {Time : Type 0} (kind : Kind Time) (laws : Laws kind) where
  -- Bounded

  abbrev Bounded : Settled Time → Latest Time → Type 0
  Bounded line latest = (late : Time) × (latest_at latest line.value ≡ Some late) × NoLater kind line.time late

  -- an input that may have the value has its settle time there
  input_may : (tied : Bool) (line : Line) (decided : Option Bool) (value : Bool) (late : Option Time) → allowed decided value ≡ true → InputLatest kind tied line decided value late → late ≡ Some (input_time kind tied line value)
  input_may tied line None value late may rule = rule
  input_may tied line (Some decided) value late may rule = rule.0 (same_true decided value may)

  -- where a row gives a time, there is a latest time, and it is no earlier
  greatest : (late : ℕ → Latest Time) (line : Line) (cell : Cell) (value : Bool) (row : ℕ) (time : Time) → RowGives kind late line cell value row time
      → (o : Option Time) → OutputLatest kind late line cell value o → (there : Time) × (o ≡ Some there) × NoLater kind time there
  greatest late line cell value row time g None rule = absurd (rule row time g)
  greatest late line cell value row time g (Some there) rule = (there, refl, rule.1 row time g)

  driver_bounded : (tied vector : ℕ → Bool) (setting : ℕ → Option Bool) (count number : ℕ) → AgreesWith count setting vector → (all : ℕ → Settled Time) (late : ℕ → Latest Time) (line : Line) (driver : Driver) → LawfulDriver count number driver
      → ((below : ℕ) → below < number → Bounded (all below) (late below))
      → LineRule kind tied vector all number line driver → LatestRule kind tied setting late number line driver (all number).value → Bounded (all number) (late number)
  driver_bounded tied vector setting count number agrees all late line Input lawful below settles rule =
      let value : Bool = (all number).value in
      let may : allowed (setting number) value ≡ true = subst (λ (v : Bool). allowed (setting number) v ≡ true) (sym settles.value_is) (agrees number lawful) in
      let time : Time = input_time kind (tied number) line value in
      (time, input_may (tied number) line (setting number) value _ may rule, subst (λ (t : Time). NoLater kind t time) (sym settles.time_is) (never_later kind laws time))
  driver_bounded tied vector setting count number agrees all late line (Output cell) lawful below settles rule =
      let at : (pin : ℕ) → pin < cell.count → Bounded (all (feeder cell pin)) (late (feeder cell pin)) = λ pin p. below (feeder cell pin) (lawful.1.lower pin p) in
      let value : Bool = (all number).value in
      let final : ℕ = pin_row (values_of all) cell in
      let present : final < 2 ^ cell.count = row_below cell.count _ in
      let pin_times : ℕ → Time = λ pin. unwrap_or (latest_pin late cell final pin) kind.start in
      let have : (pin : ℕ) (p : pin < cell.count) → latest_pin late cell final pin ≡ Some (at pin p).0
      = λ pin p. ap (latest_at (late (feeder cell pin))) (bit_row cell.count (λ pin. values_of all (feeder cell pin)) pin p) ∙ (at pin p).1 in
      let is : (pin : ℕ) (p : pin < cell.count) → pin_times pin ≡ (at pin p).0 = λ pin p. ap (λ (o : Option Time). unwrap_or o kind.start) (have pin p) in
      let from : Time = decide kind cell.table cell.count final pin_times in
      let decided = decide_decided kind laws cell.table cell.count final pin_times present lawful.1.some_pins in
      let time : Time = kind.after from (delay_at line value) in
      let gives : RowGives kind late line cell value final time = record {
        present = present;
        output_is = sym settles.value_is;
        pin_times = pin_times;
        pins_have = λ pin p. have pin p ∙ ap (λ (t : Time). Some t) (sym (is pin p));
        from = from;
        decided = decided;
        time_is = refl;
      } in
      let sooner : NoLater kind settles.from from
      = decided_earlier kind laws cell.table cell.count final _ pin_times settles.from from (λ pin p. subst (λ (t : Time). NoLater kind (all (feeder cell pin)).time t) (sym (is pin p)) (at pin p).2) settles.decided decided in
      let g = greatest late line cell value final time gives _ rule in
      (g.0, g.1, laws.transitive _ time g.0 (subst (λ (t : Time). NoLater kind t time) (sym settles.time_is) (laws.same_delay _ _ (delay_at line value) sooner)) g.2)

  -- Exact

  abbrev Exact : Settled Time → Latest Time → Type 0
  Exact line latest = (latest_at latest line.value ≡ Some line.time) × (latest_at latest (not line.value) ≡ None)

  -- a value at which there is a latest time is the final value
  value_is : (line : Settled Time) (latest : Latest Time) → Exact line latest → (value : Bool) → is_some (latest_at latest value) ≡ true → value ≡ line.value
  value_is line latest exact value some = go value line.value exact.1 some
    where
      go : (value final : Bool) → latest_at latest (not final) ≡ None → is_some (latest_at latest value) ≡ true → value ≡ final
      go true true none some = refl
      go true false none some = absurd (false≢true (sym (ap is_some none) ∙ some))
      go false true none some = absurd (false≢true (sym (ap is_some none) ∙ some))
      go false false none some = refl

  -- an input decided has its settle time at its value, and none at the other
  input_exact : (tied : Bool) (line : Line) (decided : Option Bool) (value other : Bool) (late : Option Time) → decided ≡ Some value → (value ≡ other → ⊥) → InputLatest kind tied line decided other late → late ≡ None
  input_exact tied line None value other late is apart rule = let z : ◌≡◌ {A = ℕ} 0 1 = cc in absurd (omega arith)
  input_exact tied line (Some decided) value other late is apart rule =
      let same : decided ≡ value = ap (λ (o : Option Bool). unwrap_or o decided) is in
      rule.1 (λ e. apart (sym same ∙ e))

  -- where the pins are exact, a row that gives a time is that of the final values, and gives the time at which they decide
  module _ (all : ℕ → Settled Time) (late : ℕ → Latest Time) (line : Line) (cell : Cell) (at : (pin : ℕ) → pin < cell.count → Exact (all (feeder cell pin)) (late (feeder cell pin))) where
    only_final : (value : Bool) (row : ℕ) (time : Time) → RowGives kind late line cell value row time → row ≡ pin_row (values_of all) cell
    only_final value row time g =
        row_of_bits cell.count row _ g.present (λ pin p. value_is (all (feeder cell pin)) (late (feeder cell pin)) (at pin p) (bit row pin) (ap is_some (g.pins_have pin p)))

    final_pin : (pin : ℕ) → pin < cell.count → latest_pin late cell (pin_row (values_of all) cell) pin ≡ Some (all (feeder cell pin)).time
    final_pin pin p = ap (latest_at (late (feeder cell pin))) (bit_row cell.count (λ pin. values_of all (feeder cell pin)) pin p) ∙ (at pin p).0

    final_gives : (settled : Settled Time) → CellSettles kind all line cell settled → RowGives kind late line cell settled.value (pin_row (values_of all) cell) settled.time
    final_gives settled settles =
        record {
          present = row_below cell.count _;
          output_is = sym settles.value_is;
          pin_times = λ pin. (all (feeder cell pin)).time;
          pins_have = final_pin;
          from = settles.from;
          decided = settles.decided;
          time_is = settles.time_is;
        }

    no_later : (settled : Settled Time) → CellSettles kind all line cell settled → (row : ℕ) (time : Time) → RowGives kind late line cell settled.value row time → NoLater kind time settled.time
    no_later settled settles row time g =
        let is : row ≡ pin_row (values_of all) cell = only_final settled.value row time g in
        let same : (pin : ℕ) → pin < cell.count → g.pin_times pin ≡ (all (feeder cell pin)).time
        = λ pin p. ap (λ (o : Option Time). unwrap_or o (g.pin_times pin)) (sym (g.pins_have pin p) ∙ ap (λ (r : ℕ). latest_pin late cell r pin) is ∙ final_pin pin p) in
        let sooner : NoLater kind g.from settles.from
        = decided_earlier kind laws cell.table cell.count row g.pin_times _ g.from settles.from (λ pin p. subst (λ (t : Time). NoLater kind (g.pin_times pin) t) (same pin p) (never_later kind laws _))
        g.decided (subst (λ (r : ℕ). Decided kind cell.table cell.count r (λ pin. (all (feeder cell pin)).time) settles.from) (sym is) settles.decided) in
        subst (λ (t : Time). NoLater kind t settled.time) (sym g.time_is) (subst (λ (t : Time). NoLater kind (kind.after g.from (delay_at line settled.value)) t) (sym settles.time_is) (laws.same_delay _ _ (delay_at line settled.value) sooner))

    exact_here : (settled : Settled Time) → CellSettles kind all line cell settled → (o : Option Time) → OutputLatest kind late line cell settled.value o → o ≡ Some settled.time
    exact_here settled settles None rule = absurd (rule _ _ (final_gives settled settles))
    exact_here settled settles (Some time) rule =
        ap (λ (t : Time). Some t) (laws.antisymmetric time settled.time (no_later settled settles rule.0.0 time rule.0.1) (rule.1 _ _ (final_gives settled settles)))

    none_else : (value : Bool) → value ≡ bit cell.table (pin_row (values_of all) cell) → (o : Option Time) → OutputLatest kind late line cell (not value) o → o ≡ None
    none_else value is None rule = refl
    none_else value is (Some time) rule =
        let g = rule.0.1 in
        absurd (not_itself value (is ∙ ap (bit cell.table) (sym (only_final (not value) rule.0.0 time g)) ∙ g.output_is))

  driver_exact : (tied vector : ℕ → Bool) (setting : ℕ → Option Bool) (count number : ℕ) → DecidesAll count setting vector → (all : ℕ → Settled Time) (late : ℕ → Latest Time) (line : Line) (driver : Driver) → LawfulDriver count number driver
      → ((below : ℕ) → below < number → Exact (all below) (late below))
      → LineRule kind tied vector all number line driver → ((value : Bool) → LatestRule kind tied setting late number line driver value) → Exact (all number) (late number)
  driver_exact tied vector setting count number decides all late line Input lawful below settles rule =
      let value : Bool = (all number).value in
      let is : setting number ≡ Some value = decides number lawful ∙ ap (λ (v : Bool). Some v) (sym settles.value_is) in
      let may : allowed (setting number) value ≡ true = ap (λ (o : Option Bool). allowed o value) is ∙ true_same value value refl in (
        input_may (tied number) line (setting number) value _ may (rule value) ∙ ap (λ (t : Time). Some t) (sym settles.time_is),
        input_exact (tied number) line (setting number) value (not value) _ is (not_itself value) (rule (not value)),
      )
  driver_exact tied vector setting count number decides all late line (Output cell) lawful below settles rule =
      let at : (pin : ℕ) → pin < cell.count → Exact (all (feeder cell pin)) (late (feeder cell pin)) = λ pin p. below (feeder cell pin) (lawful.1.lower pin p) in
      (exact_here all late line cell at (all number) settles _ (rule (all number).value), none_else all late line cell at (all number).value settles.value_is _ (rule (not (all number).value)))

  -- The theorems, line by line

  pub latest_bounds : LatestBounds kind
  latest_bounds tied lines setting vector lawful agrees =
      let all : ℕ → Settled Time = settled_line kind (settled kind tied lines vector) in
      let late : ℕ → Latest Time = latest_line (latest kind tied lines setting) in
      line_by_line (λ number. number < length lines → Bounded (all number) (late number))
      (λ number below h.
      let line : Line = line_at lines number in
      driver_bounded tied vector setting (inputs lines) number agrees all late line line.driver (lawful_at lines number no_line lawful h).in_order (λ lower b. below lower b (omega arith))
      (follows kind laws tied lines vector lawful all (λ n m. refl) number h) (latest_follows kind laws tied lines setting lawful late (λ n m. refl) number h (all number).value))

  pub latest_exact : LatestExact kind
  latest_exact tied lines setting vector lawful decides =
      let all : ℕ → Settled Time = settled_line kind (settled kind tied lines vector) in
      let late : ℕ → Latest Time = latest_line (latest kind tied lines setting) in
      line_by_line (λ number. number < length lines → Exact (all number) (late number))
      (λ number below h.
      let line : Line = line_at lines number in
      driver_exact tied vector setting (inputs lines) number decides all late line line.driver (lawful_at lines number no_line lawful h).in_order (λ lower b. below lower b (omega arith))
      (follows kind laws tied lines vector lawful all (λ n m. refl) number h) (latest_follows kind laws tied lines setting lawful late (λ n m. refl) number h))

  pub cut_hides_none : CutHidesNone kind
  cut_hides_none tied lines setting vector bound lawful agrees line h is_cut reaches =
      let b = latest_bounds tied lines setting vector lawful agrees line h in
      let past : kind.at_or_before bound b.0 ≡ true = laws.transitive bound _ b.0 reaches b.2 in
      true≢false (sym (sym (ap (cut kind bound) b.1) ∙ is_cut) ∙ ap not past)

  uncut_some : (bound : Time) (o : Option Time) → cut kind bound o ≡ false → is_some o ≡ true
  uncut_some bound None e = absurd (true≢false e)
  uncut_some bound (Some late) e = refl

  pub uncut_is_found : UncutIsFound kind
  uncut_is_found tied lines setting vector bound value lawful decides line h uncut =
      let final : Settled Time = settled_line kind (settled kind tied lines vector) line in
      let late : Latest Time = latest_line (latest kind tied lines setting) line in
      let exact = latest_exact tied lines setting vector lawful decides line h in
      let same : value ≡ final.value = value_is final late exact value (uncut_some bound (latest_at late value) uncut) in
      let open_end : not (kind.at_or_before bound final.time) ≡ false = sym (ap (cut kind bound) (ap (latest_at late) same ∙ exact.0)) ∙ uncut in
      (sym same, not-false (kind.at_or_before bound final.time) open_end)
