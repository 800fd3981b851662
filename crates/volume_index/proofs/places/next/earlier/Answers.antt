use Rattle.std.proofs.Common.{◌∙◌, ap, sym}
use Rattle.std.specs.Option.{option_copied}
use Rattle.volume_index.proofs.PlacesBehind.{absent, first_now, not_first, unwanted}
use Rattle.volume_index.proofs.places.next.earlier.Goals as goal

pub returns-in-None : goal.returns-in-None
returns-in-None g c = absent _ _ _ _ _ (sym c.volume_at.ensures ∙ ap option_copied c.in-None.is) c.requires

pub returns-then-not-is_wanted : goal.returns-then-not-is_wanted
returns-then-not-is_wanted g c =
    let there = sym c.volume_at.ensures ∙ ap option_copied c.in-Some.is in
    unwanted _ _ _ _ _ _ there (sym c.is_wanted.ensures ∙ c.if-not-is_wanted.true) c.requires

pub returns-then-is_before_place : goal.returns-then-is_before_place
returns-then-is_before_place g c =
    let there = sym c.volume_at.ensures ∙ ap option_copied c.in-Some.is in
    first_now _ _ _ _ _ _ there (sym c.is_wanted.ensures ∙ c.if-not-is_wanted.false) (sym c.is_before_place.ensures ∙ c.if-is_before_place.true) c.requires

pub returns-else-is_before_place : goal.returns-else-is_before_place
returns-else-is_before_place g c =
    let there = sym c.volume_at.ensures ∙ ap option_copied c.in-Some.is in
    not_first _ _ _ _ _ _ there (sym c.is_wanted.ensures ∙ c.if-not-is_wanted.false) (sym c.is_before_place.ensures ∙ c.if-is_before_place.false) c.requires
