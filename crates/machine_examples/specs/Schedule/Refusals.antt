-- Which nodes stand selected and which were refused, by the entries of a seat, the newest first: cases that hold, each beside others that
-- must not. A choice of this project.
use Rattle.std.specs.Prelude.{ℕ, ◌≡◌, true, false, List, [], ◌∷◌, Some, codes}
use Rattle.kube_parts.specs.declared.parts.Kind.TheVariants as kinds
use Rattle.kube_objects.specs.declared.objects.Claim.{Claim as ClaimData}
use Rattle.kube_objects.specs.declared.objects.Object.TheVariants.{Claim}
use Rattle.kube_parts.specs.Uids.{uid_of_serial}
use Rattle.call_types.specs.declared.request.Request.TheVariants as requests
use Rattle.call_types.specs.declared.request.SeatKind.TheVariants.{Scheduler}
use Rattle.call_types.specs.declared.reply.Change.TheVariants as changes
use Rattle.call_types.specs.declared.reply.Refusal.TheVariants as refusals
use Rattle.call_types.specs.declared.reply.Reply.TheVariants as replies
use Rattle.binder_model.specs.Told.{After, SomeOf}
use Rattle.model_examples.specs.Samples.{Exchange, finds, heard, lists, seat_of, unheard}
use Rattle.pod_scheduler.specs.declared.tries.Tried.{Tried}
use Rattle.pod_scheduler.specs.declared.tries.Tries.{Tries}
use Rattle.pod_scheduler.specs.Tries.{is_refusal, no_tries, tries_of}
use Rattle.pod_scheduler.specs.TryLaw.{Selects, TellsRefused}
use Rattle.machine_examples.specs.Delayed.Choosing.{key_c}
use Rattle.machine_examples.specs.Delayed.Scenes.{c, chosen_on, completed}

abbrev pub at_version : ℕ → ClaimData → ClaimData
at_version version x = record x { meta = record x.meta { version = version } }

-- the node n1 was selected for the claim c at version 10, the node n2 at version 12, and the node n1 again
abbrev pub first_choice : Tried
first_choice = record { claim = uid_of_serial 7; node = codes "n1"; version = 10 }

abbrev pub second_choice : Tried
second_choice = record { claim = uid_of_serial 7; node = codes "n2"; version = 12 }

abbrev pub same_choice : Tried
same_choice = record { claim = uid_of_serial 7; node = codes "n1"; version = 12 }

abbrev pub selects : List ℕ → ℕ → Exchange
selects node version = heard (requests.Update (Claim (chosen_on node c)) (Some 7)) (replies.Done (Claim (at_version version (chosen_on node c))))

abbrev pub refused_write : Exchange
refused_write = heard (requests.Update (Claim (chosen_on (codes "n1") c)) (Some 7)) (replies.Refused (refusals.Conflict 9))

-- a watch tells the claim
abbrev pub watches : ClaimData → Exchange
watches x = heard (requests.Watch kinds.PersistentVolumeClaim 7)
    (replies.Events (record { events = record { change = changes.Modified; object = Claim x; version = x.meta.version } ∷ []; upto = x.meta.version }))

abbrev pub watches_leaving : ClaimData → Exchange
watches_leaving x = heard (requests.Watch kinds.PersistentVolumeClaim 7)
    (replies.Events (record { events = record { change = changes.Deleted; object = Claim x; version = x.meta.version } ∷ []; upto = x.meta.version }))

abbrev pub Stand : List Exchange → Tries → Type 0
Stand xs m = tries_of (seat_of Scheduler xs) ≡ m

abbrev pub selected_first : Tries
selected_first = record { selected = first_choice ∷ []; refused = [] }

abbrev pub refused_first : Tries
refused_first = record { selected = []; refused = first_choice ∷ [] }

pub record RefusalExamples : Type 0 where
  pub nothing_was_told : Stand [] no_tries
  pub done_write_stands_selected : Stand (selects (codes "n1") 10 ∷ []) selected_first
  pub refused_write_does_not : Stand (refused_write ∷ []) no_tries
  pub lost_answer_does_not : Stand (unheard (selects (codes "n1") 10) ∷ []) no_tries
  pub node_of_another_writer_does_not : Stand (watches (at_version 10 (chosen_on (codes "n1") c)) ∷ []) no_tries
  pub node_that_was_taken_back_was_refused : Stand (watches (at_version 11 c) ∷ selects (codes "n1") 10 ∷ []) refused_first
  pub it_stands_selected_no_more : Stand (watches (at_version 11 c) ∷ selects (codes "n1") 10 ∷ []) selected_first → ⊥
  pub stale_watch_refuses_nothing : Stand (watches (at_version 9 c) ∷ selects (codes "n1") 10 ∷ []) selected_first
  pub stale_watch_is_no_refusal : Stand (watches (at_version 9 c) ∷ selects (codes "n1") 10 ∷ []) refused_first → ⊥
  pub own_event_refuses_nothing : Stand (watches (at_version 10 (chosen_on (codes "n1") c)) ∷ selects (codes "n1") 10 ∷ []) selected_first
  pub list_refuses_too : Stand (lists kinds.PersistentVolumeClaim (Claim (at_version 11 c) ∷ []) 11 ∷ selects (codes "n1") 10 ∷ []) refused_first
  pub live_read_refuses_too : Stand (finds key_c (Claim (at_version 11 c)) ∷ selects (codes "n1") 10 ∷ []) refused_first
  pub completed_claim_refuses_nothing : Stand (watches (at_version 11 (completed (codes "e") c)) ∷ selects (codes "n1") 10 ∷ []) selected_first
  pub claim_that_left_refuses_nothing : Stand (watches_leaving (at_version 11 c) ∷ selects (codes "n1") 10 ∷ []) selected_first
  pub write_of_another_node_refuses_the_first : Stand (selects (codes "n2") 12 ∷ selects (codes "n1") 10 ∷ []) (record { selected = second_choice ∷ []; refused = first_choice ∷ [] })
  pub write_of_the_same_node_refuses_nothing : Stand (selects (codes "n1") 12 ∷ selects (codes "n1") 10 ∷ []) (record { selected = same_choice ∷ []; refused = [] })
  pub last_refused_comes_first : Stand (watches (at_version 13 c) ∷ selects (codes "n2") 12 ∷ watches (at_version 11 c) ∷ selects (codes "n1") 10 ∷
      []) (record { selected = []; refused = second_choice ∷ [] })

pub record SeenExamples : Type 0 where
  pub claim_without_the_node_refuses : is_refusal first_choice (at_version 11 c) ≡ true
  pub older_claim_does_not : is_refusal first_choice (at_version 9 c) ≡ false
  pub claim_with_another_node_refuses : is_refusal first_choice (at_version 11 (chosen_on (codes "n2") c)) ≡ true
  pub claim_with_the_node_does_not : is_refusal first_choice (at_version 11 (chosen_on (codes "n1") c)) ≡ false
  pub completed_claim_does_not : is_refusal first_choice (at_version 11 (completed (codes "e") c)) ≡ false
  pub write_selects : SomeOf (Selects first_choice) (seat_of Scheduler (selects (codes "n1") 10 ∷ []))
  pub refused_write_does_not : SomeOf (Selects first_choice) (seat_of Scheduler (refused_write ∷ [])) → ⊥
  pub refusal_comes_after : After (SomeOf (Selects first_choice)) (TellsRefused first_choice) (seat_of Scheduler (watches (at_version 11 c) ∷ selects (codes "n1") 10 ∷ []))
  pub write_alone_refuses_nothing : After (SomeOf (Selects first_choice)) (TellsRefused first_choice) (seat_of Scheduler (selects (codes "n1") 10 ∷ [])) → ⊥
