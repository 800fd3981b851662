-- A claim that names no class gets the default one: where the binder may assign it and by which rule it is refused else,
-- and what the store admits. For each condition a case that misses it alone. The newest exchange stands first.
-- Source: Kubernetes documentation, "Persistent Volumes" (Retroactive default StorageClass assignment); else a choice of
-- this project, as the row is.
use Rattle.std.specs.Prelude.{ℕ, ◌≡◌, List, [], ◌∷◌, Some, None, codes}
use Rattle.kube_parts.specs.declared.names.Field.TheVariants as fields
use Rattle.kube_parts.specs.declared.names.LicenceRule.{LicenceRule}
use Rattle.kube_parts.specs.declared.names.LicenceRule.TheVariants as rules
use Rattle.kube_parts.specs.declared.parts.Kind.TheVariants as kinds
use Rattle.kube_objects.specs.declared.objects.Class.{Class as ClassData}
use Rattle.kube_objects.specs.declared.objects.Claim.{Claim as ClaimData}
use Rattle.kube_objects.specs.declared.objects.Object.{Object}
use Rattle.kube_objects.specs.declared.objects.Object.TheVariants.{Class, Claim}
use Rattle.kube_objects.specs.Bindings.{beta_class, is_default_class}
use Rattle.call_types.specs.declared.request.SeatKind.{SeatKind}
use Rattle.call_types.specs.declared.request.SeatKind.TheVariants as seats
use Rattle.call_types.specs.declared.request.Request.{Request}
use Rattle.call_types.specs.declared.request.Request.TheVariants as requests
use Rattle.call_types.specs.declared.reply.Change.TheVariants as changes
use Rattle.call_types.specs.declared.reply.Refusal.TheVariants as refusals
use Rattle.call_types.specs.declared.reply.Reply.{Reply}
use Rattle.call_types.specs.declared.reply.Reply.TheVariants as replies
use Rattle.binder_model.specs.Store.{first_moment}
use Rattle.binder_model.specs.Answers.{outcome, reply_of}
use Rattle.binder_model.specs.Licence.{IsRefusedBy}
use Rattle.model_examples.specs.Samples.{Allows, Exchange, seat_of, unheard, lists, tells_claim, watches, standing, c, claim_at, naming, deleting, completed_c, fast}

-- claims without a class: as it was created, completed, and with a class in the older annotation
abbrev pub classless_c : ClaimData
classless_c = record c { class = None }

abbrev pub completed_classless_c : ClaimData
completed_classless_c = record completed_c { class = None }

abbrev pub classless_by_annotation : ClaimData
classless_by_annotation = record classless_c { meta = record c.meta { annotations = (beta_class, codes "slow") ∷ [] } }

-- the claim with the class
abbrev pub of_class : List ℕ → ClaimData → ClaimData
of_class name x = record x { class = Some name }

-- a class of this name that is marked, or has another value there, created at the first moment
abbrev pub marked_by : List ℕ → List ℕ → ℕ → ClassData
marked_by value name version = record fast { meta = standing [] name 20 version [] ((is_default_class, value) ∷ []) }

abbrev pub gold : ClassData
gold = marked_by (codes "true") (codes "gold") 3

abbrev pub iron : ClassData
iron = marked_by (codes "true") (codes "iron") 4

-- the same, created a year later
abbrev pub newer_iron : ClassData
newer_iron = record iron { meta = record iron.meta { created = codes "2001-01-01T00:00:00Z" } }

-- the class without its mark; and one that is not marked and has the first name
abbrev pub unmarked : ClassData → ClassData
unmarked x = record x { meta = record x.meta { annotations = [] } }

abbrev pub alloy : ClassData
alloy = unmarked (marked_by (codes "true") (codes "alloy") 5)

abbrev pub class_at : ℕ → ClassData → ClassData
class_at version x = record x { meta = record x.meta { version = version } }

-- first the claim was told, then a list of these classes
abbrev pub told : ClaimData → List Object → List Exchange
told x classes = lists kinds.StorageClass classes 9 ∷ tells_claim x ∷ []

-- the update that gives the claim the class, at its version
abbrev pub assigns : List ℕ → ClaimData → Request
assigns name x = requests.Update (Claim (of_class name x)) (Some x.meta.version)

-- the binder's request is refused, by this rule
abbrev pub RefusedAs : LicenceRule → List Exchange → Request → Type 0
RefusedAs rule xs request = IsRefusedBy seats.Binder (seat_of seats.Binder xs) request rule

-- the claim drops its completion and gets a class in one write
abbrev pub uncompleted_gold : ClaimData
uncompleted_gold = let new = of_class (codes "gold") completed_classless_c in record new { meta = record new.meta { annotations = [] } }

pub record DefaultClassExamples : Type 0 where
  pub assigns_the_marked_class : Allows seats.Binder (told classless_c (Class gold ∷ [])) (assigns (codes "gold") classless_c)
  pub assigns_beside_an_unmarked_class : Allows seats.Binder (told classless_c (Class alloy ∷ Class gold ∷ [])) (assigns (codes "gold") classless_c)
  pub assigns_the_newer_class : Allows seats.Binder (told classless_c (Class gold ∷ Class newer_iron ∷ [])) (assigns (codes "iron") classless_c)
  pub older_class_is_refused : RefusedAs rules.DefaultClass (told classless_c (Class gold ∷ Class newer_iron ∷ [])) (assigns (codes "gold") classless_c)
  pub assigns_the_first_name_of_one_moment : Allows seats.Binder (told classless_c (Class gold ∷ Class iron ∷ [])) (assigns (codes "gold") classless_c)
  pub second_name_of_one_moment_is_refused : RefusedAs rules.DefaultClass (told classless_c (Class gold ∷ Class iron ∷ [])) (assigns (codes "iron") classless_c)
  pub assigns_what_was_marked_since : Allows seats.Binder
      (watches kinds.StorageClass changes.Modified (Class (class_at 10 gold)) 10 ∷ told classless_c (Class (unmarked gold) ∷ [])) (assigns (codes "gold") classless_c)
  pub assigns_the_next_where_the_first_is_gone : Allows seats.Binder
      (watches kinds.StorageClass changes.Deleted (Class newer_iron) 10 ∷ told classless_c (Class gold ∷ Class newer_iron ∷ [])) (assigns (codes "gold") classless_c)
  pub completed_claim_is_refused : RefusedAs rules.Completion (told completed_classless_c (Class gold ∷ [])) (assigns (codes "gold") completed_classless_c)
  pub completion_dropped_with_it_is_refused : RefusedAs rules.DefaultClass (told completed_classless_c (Class gold ∷ [])) (requests.Update (Claim uncompleted_gold) (Some 6))
  pub deleting_claim_is_refused : RefusedAs rules.DefaultClass (told (record classless_c { meta = deleting c.meta }) (Class gold ∷ []))
      (assigns (codes "gold") (record classless_c { meta = deleting c.meta }))
  pub claim_that_names_a_volume_is_refused : RefusedAs rules.DefaultClass (told (naming (codes "a") classless_c) (Class gold ∷ [])) (assigns (codes "gold") (naming (codes "a") classless_c))
  pub claim_with_a_class_is_refused : RefusedAs rules.DefaultClass (told c (Class gold ∷ [])) (assigns (codes "gold") c)
  pub claim_with_the_empty_class_is_refused : RefusedAs rules.DefaultClass (told (of_class [] c) (Class gold ∷ [])) (assigns (codes "gold") (of_class [] c))
  pub claim_with_class_in_annotation_is_refused : RefusedAs rules.DefaultClass (told classless_by_annotation (Class gold ∷ [])) (assigns (codes "gold") classless_by_annotation)
  pub claim_never_told_is_refused : RefusedAs rules.DefaultClass (lists kinds.StorageClass (Class gold ∷ []) 9 ∷ []) (assigns (codes "gold") classless_c)
  pub no_class_told_is_refused : RefusedAs rules.DefaultClass (tells_claim classless_c ∷ []) (assigns (codes "gold") classless_c)
  pub classes_in_lost_answer_is_refused : RefusedAs rules.DefaultClass (unheard (lists kinds.StorageClass (Class gold ∷ []) 9) ∷ tells_claim classless_c ∷ []) (assigns (codes "gold") classless_c)
  pub unmarked_class_is_refused : RefusedAs rules.DefaultClass (told classless_c (Class (unmarked gold) ∷ [])) (assigns (codes "gold") classless_c)
  pub other_value_is_no_mark : RefusedAs rules.DefaultClass (told classless_c (Class (marked_by (codes "false") (codes "gold") 3) ∷ [])) (assigns (codes "gold") classless_c)
  pub unmarked_since_is_refused : RefusedAs rules.DefaultClass
      (watches kinds.StorageClass changes.Modified (Class (class_at 10 (unmarked gold))) 10 ∷ told classless_c (Class gold ∷ [])) (assigns (codes "gold") classless_c)
  pub told_gone_is_refused : RefusedAs rules.DefaultClass (watches kinds.StorageClass changes.Deleted (Class gold) 10 ∷ told classless_c (Class gold ∷ [])) (assigns (codes "gold") classless_c)
  pub class_never_told_is_refused : RefusedAs rules.DefaultClass (told classless_c (Class gold ∷ [])) (assigns (codes "iron") classless_c)
  pub other_change_beside_is_refused : RefusedAs rules.DefaultClass (told classless_c (Class gold ∷ []))
      (requests.Update (Claim (record (of_class (codes "gold") classless_c) { extra = codes "x" })) (Some 2))
  pub no_class_given_is_refused : RefusedAs rules.DefaultClass (told classless_c (Class gold ∷ [])) (requests.Update (Claim classless_c) (Some 2))
  pub other_version_is_refused : RefusedAs rules.DefaultClass (told classless_c (Class gold ∷ [])) (requests.Update (Claim (of_class (codes "gold") classless_c)) (Some 1))
  pub without_version_is_refused : RefusedAs rules.DefaultClass (told classless_c (Class gold ∷ [])) (requests.Update (Claim (of_class (codes "gold") classless_c)) None)

-- the store's own rule: a claim's class is fixed, but that a claim without one may get one. All is asked of the old claim

-- a seat of the kind updates the claim that stands, and is answered
abbrev pub Answers : SeatKind → ClaimData → ClaimData → Reply → Type 0
Answers kind old new reply = reply_of (outcome (record { rows = Claim old ∷ []; version = 20 }) kind (requests.Update (Claim new) None) first_moment None) ≡ reply

abbrev pub Writes : SeatKind → ClaimData → ClaimData → Type 0
Writes kind old new = Answers kind old new (replies.Done (Claim (claim_at 21 new)))

abbrev pub RefusesSpec : SeatKind → ClaimData → ClaimData → Type 0
RefusesSpec kind old new = Answers kind old new (replies.Refused (refusals.Invalid fields.Spec))

pub record ClassFieldExamples : Type 0 where
  pub user_gives_a_class : Writes seats.User classless_c (of_class (codes "gold") classless_c)
  pub binder_gives_a_class : Writes seats.Binder classless_c (of_class (codes "gold") classless_c)
  pub user_gives_the_empty_class : Writes seats.User classless_c (of_class [] classless_c)
  pub class_stays : Writes seats.User c c
  pub no_class_stays : Writes seats.User classless_c classless_c
  pub completed_in_the_same_write : Writes seats.Binder classless_c (of_class (codes "gold") completed_classless_c)
  pub annotated_in_the_same_write : Writes seats.User classless_c (of_class (codes "gold") classless_by_annotation)
  pub completed_claim_is_refused : RefusesSpec seats.User completed_classless_c (of_class (codes "gold") completed_classless_c)
  pub completed_claim_is_refused_to_the_binder : RefusesSpec seats.Binder completed_classless_c (of_class (codes "gold") completed_classless_c)
  pub completion_dropped_with_it_is_refused : RefusesSpec seats.Binder completed_classless_c uncompleted_gold
  pub class_in_annotation_is_refused : RefusesSpec seats.User classless_by_annotation (of_class (codes "gold") classless_by_annotation)
  pub annotation_dropped_with_it_is_refused : RefusesSpec seats.User classless_by_annotation (of_class (codes "gold") classless_c)
  pub class_to_another_is_refused : RefusesSpec seats.User c (of_class (codes "gold") c)
  pub class_to_another_is_refused_to_the_binder : RefusesSpec seats.Binder c (of_class (codes "gold") c)
  pub class_to_none_is_refused : RefusesSpec seats.User c classless_c
  pub empty_class_to_another_is_refused : RefusesSpec seats.User (of_class [] c) (of_class (codes "gold") c)
  pub empty_class_to_none_is_refused : RefusesSpec seats.User (of_class [] c) classless_c
