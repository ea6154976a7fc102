use Rattle.std.proofs.Common.{◌≡◌, suc, ◌+◌, ◌-◌, [], ◌∷◌, subst, inr, arith}
use Rattle.std.proofs.lemmas.Result.{MatchResult-weaker}
use Rattle.sheets.specs.Recogniser.{Item}
use Rattle.grammar.specs.Readers.{at}
use Rattle.grammar.specs.Readings.{Stops, PinsRead}
use Rattle.grammar.proofs.Roads.{break_cases, road_on, road_stop, byte_on, byte_stuck}
use Rattle.grammar.proofs.Cells.{cell_unopened, cell_opened, cell_too_deep, pin_no_cell, pin_of_name, pin_no_name, road_pin, pins_end, pins_more, pins_full, pins_unspaced, pins_spaced, cell_read, cell_sized}
use Rattle.grammar.proofs.reader.Reader.+cell_pin_pins.Goals as goal

-- A cell.

pub cell-returns-in_err-opening : goal.cell-returns-in_err-opening
cell-returns-in_err-opening t c =
    let f = c.in_err-opening.field-0.0 in
    break_cases _ _ _ f c.from_residual.ensures.1 (cell_unopened c.args.room (at c.args.self.now) f c.args.self.now.within c.in_err-opening.ensures)

pub cell-returns-then-room-eq0 : goal.cell-returns-then-room-eq0
cell-returns-then-room-eq0 t c = cell_too_deep c.args.room (at c.args.self.now) (at c.opening.new.self) _ c.if-room-eq0.true c.args.self.now.within c.in_ok-opening.ensures

pub cell-returns-in_err-head : goal.cell-returns-in_err-head
cell-returns-in_err-head t c =
    let f = c.in_err-head.field-0.0 in
    let r1 = cell_opened c.args.room (at c.args.self.now) (at c.opening.new.self) _ c.in_ok-opening.ensures in
    break_cases _ _ _ f c.from_residual-in_err-head.ensures.1 (road_stop f r1 (λ s ok. c.in_err-head.ensures (Item.byte 32 ∷ Item.pin ∷ Item.pins 3 ∷ s) (omega (arith, c.if-room-eq0.false))))

pub cell-returns-in_err-expect : goal.cell-returns-in_err-expect
cell-returns-in_err-expect t c =
    let f = c.in_err-expect.field-0.0 in
    let head = c.in_ok-head.ensures in
    let r1 = cell_opened c.args.room (at c.args.self.now) (at c.opening.new.self) _ c.in_ok-opening.ensures in
    let r2 = road_on (λ s. Item.byte 32 ∷ Item.pin ∷ Item.pins 3 ∷ s) r1 head.took (λ s ok. head.moves (Item.byte 32 ∷ Item.pin ∷ Item.pins 3 ∷ s) (omega (arith, c.if-room-eq0.false))) in
    break_cases _ _ _ f c.from_residual-in_err-expect.ensures.1 (road_stop f r2 (λ s ok. byte_stuck 32 (Item.pin ∷ Item.pins 3 ∷ s) (at c.head.new.self) f (omega (arith, c.if-room-eq0.false)) c.head.new.self.within c.in_err-expect.ensures))

pub cell-returns-in_err-pin : goal.cell-returns-in_err-pin
cell-returns-in_err-pin t c =
    let f = c.in_err-pin.field-0.0 in
    let head = c.in_ok-head.ensures in
    let space = c.in_ok-expect.ensures in
    let r1 = cell_opened c.args.room (at c.args.self.now) (at c.opening.new.self) _ c.in_ok-opening.ensures in
    let r2 = road_on (λ s. Item.byte 32 ∷ Item.pin ∷ Item.pins 3 ∷ s) r1 head.took (λ s ok. head.moves (Item.byte 32 ∷ Item.pin ∷ Item.pins 3 ∷ s) (omega (arith, c.if-room-eq0.false))) in
    let r3 = road_on (λ s. Item.pin ∷ Item.pins 3 ∷ s) r2 space (λ s ok. byte_on 32 (Item.pin ∷ Item.pins 3 ∷ s) [] _ _ (omega (arith, c.if-room-eq0.false)) space) in
    break_cases _ _ _ f c.from_residual-in_err-pin.ensures.1 (road_stop f r3 (λ s ok. c.in_err-pin.ensures (Item.pins 3 ∷ s) (omega (arith, c.if-room-eq0.false))))

pub cell-returns : goal.cell-returns
cell-returns t c =
    let opened = c.in_ok-opening.ensures in
    let head = c.in_ok-head.ensures in
    let space = c.in_ok-expect.ensures in
    let pin = c.in_ok-pin.ensures in
    let r1 = cell_opened c.args.room (at c.args.self.now) (at c.opening.new.self) _ opened in
    let r2 = road_on (λ s. Item.byte 32 ∷ Item.pin ∷ Item.pins 3 ∷ s) r1 head.took (λ s ok. head.moves (Item.byte 32 ∷ Item.pin ∷ Item.pins 3 ∷ s) (omega (arith, c.if-room-eq0.false))) in
    let r3 = road_on (λ s. Item.pin ∷ Item.pins 3 ∷ s) r2 space (λ s ok. byte_on 32 (Item.pin ∷ Item.pins 3 ∷ s) [] _ _ (omega (arith, c.if-room-eq0.false)) space) in
    let r4 = road_pin (c.args.room - 1) (λ s. Item.pins 3 ∷ s) (λ s ok. omega (arith, c.if-room-eq0.false)) r3 pin in
    let same : suc (c.args.room - 1) ≡ c.args.room = omega (arith, c.if-room-eq0.false) in
    MatchResult-weaker c.pins.result c.pins.ensures
    (λ _ m. let all = pins_more (c.args.room - 1) 3 _ _ _ _ space pin m in cell_sized (c.args.room - 1) c.args.room _ _ same (cell_read (c.args.room - 1) _ _ _ _ opened head all.0 all.1))
    (λ f n. road_stop f r4.1.1 (λ s ok. n s (omega (arith, c.if-room-eq0.false))))

-- A pin.

pub pin-returns-then-next_is : goal.pin-returns-then-next_is
pin-returns-then-next_is t c = MatchResult-weaker c.cell.result c.cell.ensures (λ _ m. inr m) (λ f n. pin_no_cell c.args.room (at c.args.self.now) f c.if-next_is.ensures n)

pub pin-returns-else-next_is : goal.pin-returns-else-next_is
pin-returns-else-next_is t c =
    MatchResult-weaker c.name.result c.name.ensures (λ _ m. pin_of_name c.args.room _ _ c.if-next_is.ensures m) (λ f n. pin_no_name c.args.room (at c.args.self.now) f c.if-next_is.ensures n)

-- More pins.

pub pins-returns-then-next_is : goal.pins-returns-then-next_is
pins-returns-then-next_is t c =
    let next = c.if-next_is.ensures in
    MatchResult-weaker c.close.result c.close.ensures (λ _ took. pins_end c.args.room c.args.more _ _ took) (λ f n. absurd (n.1 next.0 next.1))

pub pins-returns-then-more-eq0 : goal.pins-returns-then-more-eq0
pins-returns-then-more-eq0 t c = pins_full c.args.room c.args.more (at c.args.self.now) c.if-more-eq0.true c.args.self.now.within c.if-next_is.ensures

pub pins-returns-in_err-expect : goal.pins-returns-in_err-expect
pins-returns-in_err-expect t c =
    let f = c.in_err-expect.field-0.0 in
    let a = at c.args.self.now in
    let same : suc (c.args.more - 1) ≡ c.args.more = omega (arith, c.if-more-eq0.false) in
    break_cases _ _ _ f c.from_residual.ensures.1 (subst (λ k. Stops (λ s. Item.pins k ∷ s) (c.args.room + 1) a f) same (pins_unspaced c.args.room (c.args.more - 1) a f c.args.self.now.within c.if-next_is.ensures c.in_err-expect.ensures))

pub pins-returns-in_err-pin : goal.pins-returns-in_err-pin
pins-returns-in_err-pin t c =
    let f = c.in_err-pin.field-0.0 in
    let a = at c.args.self.now in
    let same : suc (c.args.more - 1) ≡ c.args.more = omega (arith, c.if-more-eq0.false) in
    let r1 = pins_spaced c.args.room (c.args.more - 1) a (at c.expect.new.self) c.in_ok-expect.ensures in
    break_cases _ _ _ f c.from_residual-in_err-pin.ensures.1 (subst (λ k. Stops (λ s. Item.pins k ∷ s) (c.args.room + 1) a f) same (road_stop f r1 (λ s ok. c.in_err-pin.ensures (Item.pins (c.args.more - 1) ∷ s) (omega arith))))

pub pins-returns : goal.pins-returns
pins-returns t c =
    let a = at c.args.self.now in
    let space = c.in_ok-expect.ensures in
    let pin = c.in_ok-pin.ensures in
    let same : suc (c.args.more - 1) ≡ c.args.more = omega (arith, c.if-more-eq0.false) in
    let r1 = pins_spaced c.args.room (c.args.more - 1) a (at c.expect.new.self) space in
    let r2 = road_pin c.args.room (λ s. Item.pins (c.args.more - 1) ∷ s) (λ s ok. omega arith) r1 pin in
    MatchResult-weaker c.pins.result c.pins.ensures
    (λ _ m. subst (λ k. PinsRead c.args.room k a (at c.pins.new.self)) same (pins_more c.args.room (c.args.more - 1) _ _ _ _ space pin m).0)
    (λ f n. subst (λ k. Stops (λ s. Item.pins k ∷ s) (c.args.room + 1) a f) same (road_stop f r2.1.1 n))
