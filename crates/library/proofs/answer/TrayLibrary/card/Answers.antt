use Rattle.std.proofs.Common.{◌≡◌, true, false, vec_items, rules}
use Rattle.library.specs.Decks.{cards_of}
use Rattle.library.specs.Found.{has_card}
use Rattle.library.proofs.Stretches.{found_past, found_card}
use Rattle.library.proofs.answer.TrayLibrary.card.Goals as goal

pub returns-then-not-has : goal.returns-then-not-has
returns-then-not-has c =
    let cards = cards_of (vec_items c.args.self.now.bytes) in
    let out : has_card c.in-Some.found c.args.i ≡ false = search rules in
    let none = found_past c.args.name cards c.in-Some.found c.in-Some.ensures.found c.args.i out in
    record { same = search rules; answer = search rules; filled = search rules }

pub returns : goal.returns
returns c =
    let cards = cards_of (vec_items c.args.self.now.bytes) in
    let has : has_card c.in-Some.found c.args.i ≡ true = search rules in
    let read = found_card c.args.name cards c.in-Some.found c.in-Some.ensures.found c.args.i has in
    record { same = search rules; answer = search rules; filled = search rules }
