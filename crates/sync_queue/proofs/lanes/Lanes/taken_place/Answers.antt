use Rattle.std.proofs.Common.{◌<◌, ap, subst, sym, ◌∙◌}
use Rattle.std.specs.List.{list_any}
use Rattle.std.proofs.lemmas.Option.{slice_get_read}
use Rattle.indexmap.specs.IndexMap.{keys}
use Rattle.kube_objects.specs.Keys.{same_key}
use Rattle.sync_queue.specs.Steps.Lanes.{is_again, keys_in, stage_in}
use Rattle.sync_queue.proofs.MapPlaces.{any_there, below_at, length-keys_at, there_at}
use Rattle.sync_queue.proofs.lanes.Lanes.taken_place.Goals as goal

pub stage-requires : goal.stage-requires
stage-requires c =
    let taken = c.args.self.now.taken in
    below_at _ _ c.in_ok-at.at _ (slice_get_read taken.items taken.len c.in_ok-at.at _ taken.ok.0 c.in_ok-at.ensures.within c.index-place.ensures) c.requires.sound.places.taken

pub returns-clause-taken : goal.returns-clause-taken
returns-clause-taken c =
    let l = c.args.self.now in
    let ks = keys l.stages in
    let at = c.in_ok-at.at in
    let lt = subst (λ n. at < n) (sym (length-keys_at ks l.taken.items)) (subst (λ n. at < n) l.taken.ok.0 c.in_ok-at.ensures.within) in
    sym (any_there (keys_in l l.taken.items) at lt) ∙ (ap (λ k. list_any (same_key k) (keys_in l l.taken.items)) c.in_ok-at.ensures.key ∙ c.requires.sound.lanes.taken.says c.args.key.now)

pub returns-clause-again : goal.returns-clause-again
returns-clause-again c =
    let l = c.args.self.now in
    c.is_marked.ensures ∙ ap is_again (sym c.stage.ensures ∙ ap (stage_in l)
    (sym (there_at (keys l.stages) l.taken.items c.in_ok-at.at _
    (slice_get_read l.taken.items l.taken.len c.in_ok-at.at _ l.taken.ok.0 c.in_ok-at.ensures.within c.index-place.ensures)) ∙ c.in_ok-at.ensures.key))
