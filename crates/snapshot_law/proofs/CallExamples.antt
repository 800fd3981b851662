-- What calls do, computed.
use Rattle.std.proofs.Common.{refl}
use Rattle.std.proofs.lemmas.Cmp.{nat_list_cmp_total, tied_itself}
use Rattle.snapshot_bind.specs.SideStore.{
  claimed_data,
  content_of_version,
  cut,
  cut_from,
  cut_name,
  data_in,
  effect_of,
  get,
  refuse,
  release,
  snapshot_of_version,
  uncontent,
  unsnap,
  worker_effect,
  write,
}
use Rattle.snapshot_law.specs.CallExamples.{BindExamples, CutExamples, LeaveExamples, LookExamples, MakeExamples, UncontentExamples, UnsnapExamples}

pub make_examples : MakeExamples
unfolding effect_of refuse
make_examples = record { snapshot = refl; snapshot_twice = refl; same_name_elsewhere = refl; content = refl; content_twice = refl }

pub unsnap_examples : UnsnapExamples
unfolding effect_of unsnap
unsnap_examples = record { marks = refl; second_time = refl; second_time_raises_nothing = refl; absent = refl }

pub uncontent_examples : UncontentExamples
unfolding effect_of uncontent release refuse
uncontent_examples = record { unbound = refl; without_its_snapshot = refl; while_its_snapshot_stands = refl; absent = refl }

pub look_examples : LookExamples
unfolding effect_of worker_effect get
look_examples = record { list = refl; found = refl; other_namespace = refl }

pub cut_examples : CutExamples
unfolding effect_of worker_effect cut cut_from claimed_data data_in refuse
cut_examples = record {
  cuts = refl;
  other_uid = refl;
  absent = refl;
  name_taken = rw (tied_itself nat_list_cmp_total (cut_name 1)) refl;
  pending_claim = refl;
  no_volume = refl;
  no_claim = refl;
  while_it_leaves = refl;
}

pub bind_examples : BindExamples
unfolding effect_of worker_effect write content_of_version snapshot_of_version
bind_examples = record { content = refl; content_moved = refl; content_absent = refl; snapshot = refl; snapshot_moved = refl; snapshot_absent = refl }

pub leave_examples : LeaveExamples
unfolding effect_of worker_effect write content_of_version snapshot_of_version
leave_examples = record { snapshot = refl; snapshot_moved = refl; erases = refl; erases_moved = refl; content = refl; content_absent = refl }
