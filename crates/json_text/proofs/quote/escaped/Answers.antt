use Rattle.std.proofs.Common.{◌≡◌, ◌∷◌, [], ◌∙◌, append-nil}
use Rattle.json.specs.Token.{string}
use Rattle.json.specs.Print.{print, print_from, quoted}
use Rattle.json_text.proofs.quote.escaped.Goals as goal

pub returns : goal.returns
unfolding print_from
returns c =
    let printed : print (string c.args.text.now ∷ []) ≡ quoted c.args.text.now = append-nil (quoted c.args.text.now) in
    rw (c.string.ensures.room.0, c.new-out.ensures.before, c.new.ensures.items, c.in_ok-string.ensures.ok, c.new-out.ensures.tokens) at c.into_inner.ensures.items ∙ printed
