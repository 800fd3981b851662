use Rattle.std.proofs.Common.{◌∙◌, ap, sym}
use Rattle.std.specs.Option.{option_copied}
use Rattle.volume_match.proofs.Scans.{absent, closed, kept, open_candidate, passed_over, taken, unserved}
use Rattle.volume_match.proofs.choice.better.Goals.{else-is_preferred-via-then-is_preferred+else-is_open, else-is_preferred-via-else-is_preferred}
use Rattle.volume_match.proofs.choice.better.Goals as goal

pub returns-in-None : goal.returns-in-None
returns-in-None g c =
    let gone = sym c.volume_at.ensures ∙ ap option_copied c.in-None.is in
    passed_over _ _ _ _ _ _ _ (absent _ _ _ _ _ _ gone) c.requires

pub returns-then-not-serves : goal.returns-then-not-serves
returns-then-not-serves g c =
    let there = sym c.volume_at.ensures ∙ ap option_copied c.in-Some.is in
    passed_over _ _ _ _ _ _ _ (closed _ _ _ _ _ _ _ there
    (unserved c.args.claim.now (option_copied c.args.node) c.args.only_own
    (g.P.Places.places c.args.excluded.now) c.args.place c.in-Some.volume.now (sym c.serves.ensures ∙ c.if-not-serves.true))) c.requires

pub returns-else-is_preferred : goal.returns-else-is_preferred
returns-else-is_preferred g c =
    let there = sym c.volume_at.ensures ∙ ap option_copied c.in-Some.is in
    elim c.else-is_preferred.branch [
      | else-is_preferred-via-then-is_preferred+else-is_open w ↦
          passed_over _ _ _ _ _ _ _ (closed _ _ _ _ _ _ _ there (sym w.is_open.ensures ∙ w.if-is_open.false)) c.requires
      | else-is_preferred-via-else-is_preferred w ↦
          kept _ _ _ _ _ _ _ _ there (sym c.is_preferred.ensures ∙ w.if-is_preferred.false) c.requires
    ]

pub returns-then-is_open : goal.returns-then-is_open
returns-then-is_open g c =
    let there = sym c.volume_at.ensures ∙ ap option_copied c.in-Some.is in
    taken _ _ _ _ _ _ _ _ (open_candidate _ _ _ _ _ _ _ there (sym c.is_open.ensures ∙ c.if-is_open.true)) (sym c.is_preferred.ensures ∙ c.if-is_preferred.true) c.requires
