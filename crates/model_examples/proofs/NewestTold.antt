-- What was told, computed.
use Rattle.std.proofs.Common.{sym, refl, inl, inr, true≢false}
use Rattle.std.specs.Prelude.{◌==◌, is_some}
use Rattle.kube_objects.specs.Keys.{meta_of}
use Rattle.model_examples.specs.NewestTold.{ToldExamples, NewestExamples}
use Rattle.model_examples.proofs.Tellings.{differ, neither}

pub told_examples : ToldExamples
told_examples = record {
  by_write = inl (refl, inl refl);
  by_get = inl (refl, inl refl);
  by_list = inl (refl, inr (inl refl));
  by_list_of_namespace = inl (refl, inl refl);
  by_event_added = inl (refl, inl refl);
  by_event_modified = inl (refl, inl refl);
  by_an_older_exchange = inr (inl (refl, inl refl));
  not_by_event_deleted = λ t. neither (λ h. h.1) (λ h. h) t;
  not_by_leaving = λ t. neither (λ h. h.1) (λ h. h) t;
  not_by_lost_answer = λ t. neither (λ h. true≢false (sym h.0)) (λ h. h) t;
  not_by_request = λ t. neither (λ h. h.1) (λ h. h) t;
  not_at_other_version = λ t. neither (λ h. neither (λ e. differ (λ o. (meta_of o).version == 5) e refl refl) (λ x. x) h.1) (λ h. h) t;
}

pub newest_examples : NewestExamples
newest_examples = record {
  by_write = refl;
  by_list = refl;
  by_event = refl;
  greater_version_told_before = refl;
  greater_version_told_after = refl;
  lost_answer_tells_nothing = refl;
  live_read_tells_no_newest = refl;
  live_read_alone_tells_no_newest = refl;
  absent_in_a_later_list = refl;
  absent_in_an_older_list = refl;
  absent_by_leaving = refl;
  absent_by_event_deleted = refl;
  list_of_other_kind_tells_no_absence = refl;
  list_of_namespace_tells_absence = refl;
  list_of_other_namespace_tells_no_absence = refl;
  not_found_tells_no_absence = refl;
  write_of_other_key_tells_nothing = refl;
  leaving_of_other_key_tells_nothing = refl;
  event_of_other_key_tells_nothing = refl;
  deletion_of_other_key_tells_nothing = refl;
  later_of_two_events = refl;
  event_behind_one_of_other_key = refl;
  pods_of_the_namespace_tell_no_absence = refl;
  nothing_told_is_no_absence = λ h. h;
  present_is_no_absence = λ h. differ is_some h refl refl;
}
