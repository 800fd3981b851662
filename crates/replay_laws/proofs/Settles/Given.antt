-- What a text gives has its annotations in order and UIDs of 128 bits, so drains of such runs end settled.
use Rattle.std.proofs.Common.{◌≡◌, ◌<◌, List, [], ◌∷◌, ◌++◌, length, Option, inl, inr, subst, arith}
use Rattle.std.specs.Prelude.{All, IfSome}
use Rattle.std.proofs.lemmas.List.Elements.{All-head, All-tail}
use Rattle.kube_parts.specs.declared.uid.Uid.{Uid}
use Rattle.kube_objects.specs.declared.objects.Object.{Object}
use Rattle.kube_objects.specs.declared.objects.Object.TheVariants.{Class, Node, Volume, Claim, Pod}
use Rattle.kube_objects.specs.Keys.{meta_of}
use Rattle.call_types.specs.declared.entry.Entry.{Entry}
use Rattle.binder_model.specs.Promises.{IsRunOf, most_entries}
use Rattle.binder_model.specs.Run.{Run}
use Rattle.binder_model.specs.Told.{SomeOf}
use Rattle.binder_model.specs.World.{world}
use Rattle.model_laws.proofs.Growing.{older_parts_are_runs}
use Rattle.object_laws.specs.Given.{IsGivenObject, IsUid}
use Rattle.history_laws.specs.Runs.Laws.{IsAskedGiven}
use Rattle.history_laws.proofs.Runs.Runs.{past_given}
use Rattle.settle_measure.proofs.Left.Sums.{found_in}
use Rattle.actor_rounds.proofs.DrainFacts.{drains_grow}
use Rattle.actor_rounds.specs.Rounds.{all_pass}
use Rattle.settle_progress.proofs.Epochs.Silent.{older_run}
use Rattle.settle_budget.proofs.Drains.Fresh.{new_drains_settle}
use Rattle.replay_laws.specs.Settles.Given.{GivenDrainsSettle, GivenImportsFit, GivenRunsStayInOrder}

-- ---- what holds of all holds of one

one_of_all : (P : Object → Type 0) (rows : List Object) (o : Object) → All P rows → SomeOf (λ x. x ≡ o) rows → P o
one_of_all P [] o all some = absurd some
one_of_all P (x ∷ rows) o all (inl is) = subst P is (All-head P x rows all)
one_of_all P (x ∷ rows) o all (inr more) = one_of_all P rows o (All-tail P x rows all) more

older_asked : (newer older : List Entry) → All IsAskedGiven (newer ++ older) → All IsAskedGiven older
older_asked [] older all = all
older_asked (e ∷ newer) older all = older_asked newer older (All-tail IsAskedGiven e (newer ++ older) all)

older_short : (newer older : List Entry) → length (newer ++ older) < most_entries → length older < most_entries
older_short [] older short = short
older_short (e ∷ newer) older short = older_short newer older (omega (arith, short))

pub given_runs_stay_in_order : GivenRunsStayInOrder
given_runs_stay_in_order setup past given newer older are key c there =
    let asked = older_asked newer older (subst (All IsAskedGiven) are given.asked) in
    let short = older_short newer older (subst (λ es. length es < most_entries) are given.short) in
    let now = past_given setup older given.setup_given short asked (older_parts_are_runs setup newer older (subst (Run setup) are given.run)) in
    (one_of_all IsGivenObject (world setup older).store.rows (Claim c) now.world.store.rows (found_in key (world setup older).store.rows (Claim c) there)).meta.annotations

uid_fits : (o : Object) → IsGivenObject o → IfSome (meta_of o).uid IsUid
uid_fits (Class x) is = is.meta.uid
uid_fits (Node x) is = is.meta.uid
uid_fits (Volume x) is = is.meta.uid
uid_fits (Claim x) is = is.meta.uid
uid_fits (Pod x) is = is.meta.uid

pub given_imports_fit : GivenImportsFit
given_imports_fit setup is o uid among has = subst (λ (x : Option Uid). IfSome x IsUid) has (uid_fits o (one_of_all IsGivenObject setup.imports o is.imports among))

pub given_drains_settle : GivenDrainsSettle
given_drains_settle setup first nodes ds after h past b left given fresh has late drained =
    let run : IsRunOf setup past = record { imports = given.setup_given.passing; short = given.short; run = given.run } in
    let g = drains_grow all_pass setup after past left ds h b drained in
    let here = older_run setup g.longer.added h (subst (IsRunOf setup) g.longer.are run) in
    new_drains_settle setup first nodes ds after h past b left (record { uids = given_imports_fit setup given.setup_given }) here fresh has run (given_runs_stay_in_order setup past given) late drained
