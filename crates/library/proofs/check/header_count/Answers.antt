use Rattle.std.proofs.Common.{◌≡◌, filter, sym, ◌∙◌, rules}
use Rattle.std.proofs.lemmas.List.{length-map}
use Rattle.std.proofs.lemmas.List.Sums.{length-filter}
use Rattle.std.specs.List.{count_by}
use Rattle.library.specs.Decks.{is_header, name_on}
use Rattle.library.proofs.check.header_count.Goals as goal

pub returns : goal.returns
returns c =
    let counted : c.count.result ≡ count_by is_header c.args.cards.now = search rules in
    counted ∙ sym (length-map (filter is_header c.args.cards.now) name_on ∙ length-filter is_header c.args.cards.now)
