use Rattle.std.proofs.Common.{◌≡◌, ◌+◌, length, drop, sym, ap, ◌∙◌, refl, rules}
use Rattle.std.proofs.lemmas.List.{take_rest}
use Rattle.library.specs.Decks.{deck}
use Rattle.library.proofs.Stretches.{deck_small, finds}
use Rattle.library.proofs.find.find_deck.Goals as goal

pub overflow_cast-size : goal.overflow_cast-size
overflow_cast-size c =
    let first = c.in_ok-first.field-0 in
    let size : c.deck_size-size.result ≡ length (deck (drop (first + 1) c.args.cards.now)) = c.deck_size-size.ensures ∙ ap (λ x. length (deck x)) (take_rest c.args.cards.now (first + 1)) in
    let small = deck_small c.args.name c.args.cards.now first (sym c.in_ok-first.ensures) c.requires in
    search rules

pub returns : goal.returns
returns c =
    let first = c.in_ok-first.field-0 in
    let size : c.deck_size-size.result ≡ length (deck (drop (first + 1) c.args.cards.now)) = c.deck_size-size.ensures ∙ ap (λ x. length (deck x)) (take_rest c.args.cards.now (first + 1)) in
    finds c.args.name c.args.cards.now first (sym c.in_ok-first.ensures) _ refl size
