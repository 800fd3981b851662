-- The default class in retrospect, computed.
use Rattle.std.proofs.Common.{sym, refl, ap, subst, inl, inr, true≢false, ◌∙◌}
use Rattle.std.specs.Prelude.{ℕ, ◌≡◌, ◌≢◌, ◌⊎◌, Bool, true, false, List, [], ◌∷◌, Option, Some, None, is_none, bytes_eq, codes, unwrap_or}
use Rattle.std.specs.declared.cmp.Ordering.{Ordering}
use Rattle.std.specs.declared.cmp.Ordering.TheVariants.{Greater}
use mathlib.Core.Bool.{xor}
use Rattle.kube_parts.specs.declared.names.LicenceRule.{LicenceRule}
use Rattle.kube_parts.specs.declared.names.LicenceRule.TheVariants as rules
use Rattle.kube_parts.specs.declared.parts.Kind.TheVariants as kinds
use Rattle.kube_objects.specs.declared.objects.Class.{Class as ClassData}
use Rattle.kube_objects.specs.declared.objects.Claim.{Claim as ClaimData}
use Rattle.kube_objects.specs.declared.objects.Object.TheVariants.{Class, Claim}
use Rattle.kube_types.specs.Defaults.{is_default, class_cmp, IsDefaultOf}
use Rattle.kube_objects.specs.Bindings.{is_empty}
use Rattle.call_types.specs.declared.entry.Entry.{Entry}
use Rattle.call_types.specs.declared.request.SeatKind.TheVariants as seats
use Rattle.call_types.specs.declared.request.Request.{Request}
use Rattle.call_types.specs.declared.request.Request.TheVariants as requests
use Rattle.call_types.specs.declared.reply.Change.TheVariants as changes
use Rattle.binder_model.specs.At.{IsWrittenAt}
use Rattle.binder_model.specs.ObjectKeys.{class_key}
use Rattle.binder_model.specs.Store.{with_meta, with_status_of, updated_object, leaves}
use Rattle.binder_model.specs.Fields.{faulty, claim_fault, kind_fault, create_fault, changed_field, update_fault}
use Rattle.binder_model.specs.Guard.{breaks, guard}
use Rattle.binder_model.specs.Answers.{refuse, refuse_field, refuse_rule, guard_on, update, outcome, reply_of}
use Rattle.binder_model.specs.Told.{SomeOf}
use Rattle.binder_model.specs.BinderLicence.{IsToldClass, MayAssignClass, MayComplete, IsBoundFor}
use Rattle.binder_model.specs.Licence.{AtClaim, IsRefusedBy, row_rule}
use Rattle.model_examples.specs.Samples.{Allows, Exchange, seat_of, unheard, lists, tells_claim, watches, c, naming, deleting}
use Rattle.model_examples.specs.DefaultClass.{
  DefaultClassExamples,
  ClassFieldExamples,
  classless_c,
  completed_classless_c,
  classless_by_annotation,
  uncompleted_gold,
  of_class,
  marked_by,
  gold,
  iron,
  newer_iron,
  unmarked,
  alloy,
  class_at,
  told,
  assigns,
}
use Rattle.model_examples.proofs.Tellings.{differ, sole, own_kind, told_volumes, claim_row, newest_class, claims_in, classes_in, told_objects, is_version, has_version}

abbrev mine : List Exchange → List Entry
mine xs = seat_of seats.Binder xs

-- a request that its row does not allow is refused by the rule of the row
by_rule : (rule : LicenceRule) (xs : List Exchange) (request : Request) → row_rule seats.Binder request ≡ rule → (Allows seats.Binder xs request → ⊥) → IsRefusedBy seats.Binder (mine xs) request rule
by_rule rule xs request of_row refused = record { refused = refused; mixed = λ two. absurd (two (own_kind seats.Binder xs)); row = λ one. sym of_row }

abbrev Assign : List Exchange → ClaimData → Option ℕ → Type 0
Assign xs new given = AtClaim (mine xs) new given (λ o. MayAssignClass (mine xs) o new)

-- the row at the one claim that was told
at : (xs : List Exchange) (x new : ClaimData) (given : Option ℕ) → claims_in (told_objects (mine xs)) ≡ x ∷ [] → Assign xs new given
    → IsWrittenAt given new.meta.namespace new.meta.name x.meta × MayAssignClass (mine xs) x new
at xs x new given only h = sole (subst
    (λ ys. SomeOf (λ o. IsWrittenAt given new.meta.namespace new.meta.name o.meta × MayAssignClass (mine xs) o new) ys) only (claim_row (λ o. MayAssignClass (mine xs) o new) (mine xs) new given h))

-- the class that is assigned is one that was told
class_of : (xs : List Exchange) (o new : ClaimData) (r : MayAssignClass (mine xs) o new) → SomeOf (λ k. k ≡ r.class) (classes_in (told_objects (mine xs)))
class_of xs o new r = newest_class (mine xs) (class_key r.class.meta.name) r.class r.default.there

-- what is said of it
pub record Assigned (xs : List Exchange) (o new : ClaimData) (class : ClassData) : Type 0 where
  pub default : IsDefaultOf (IsToldClass (mine xs)) class
  pub change : new ≡ record o { class = Some class.meta.name }

assigned : (xs : List Exchange) (o new : ClaimData) (r : MayAssignClass (mine xs) o new) (class : ClassData) → class ≡ r.class → Assigned xs o new class
assigned xs o new r class e = subst (λ k. Assigned xs o new k) (sym e) (record { default = r.default; change = r.change })

-- no class was told
classless : (xs : List Exchange) (o new : ClaimData) → classes_in (told_objects (mine xs)) ≡ [] → MayAssignClass (mine xs) o new → ⊥
classless xs o new none r = subst (λ ks. SomeOf (λ k. k ≡ r.class) ks) none (class_of xs o new r)

-- one class was told
one_class : (xs : List Exchange) (o new : ClaimData) (class : ClassData) → classes_in (told_objects (mine xs)) ≡ class ∷ [] → MayAssignClass (mine xs) o new → Assigned xs o new class
one_class xs o new class only r = assigned xs o new r class (sole (subst (λ ks. SomeOf (λ k. k ≡ r.class) ks) only (class_of xs o new r)))

-- two were
two_classes : (xs : List Exchange) (o new : ClaimData) (first second : ClassData) → classes_in (told_objects (mine xs)) ≡ first ∷ second ∷ []
    → MayAssignClass (mine xs) o new → Assigned xs o new first ⊎ Assigned xs o new second
two_classes xs o new first second both r = by (subst (λ ks. SomeOf (λ k. k ≡ r.class) ks) both (class_of xs o new r))
  where
    by : (first ≡ r.class) ⊎ ((second ≡ r.class) ⊎ ⊥) → Assigned xs o new first ⊎ Assigned xs o new second
    by (inl e) = inl (assigned xs o new r first e)
    by (inr (inl e)) = inr (assigned xs o new r second e)
    by (inr (inr h)) = absurd h

abbrev is_greater : Ordering → Bool
is_greater Greater = true
is_greater o = false

-- the claim has the class of this name
abbrev is_of : List ℕ → ClaimData → Bool
is_of name x = bytes_eq (unwrap_or x.class []) name

-- a class that does not come before this one
not_before : (x y z : ClassData) → y ≡ z → is_greater (class_cmp x y) ≡ false → class_cmp x z ≢ Greater
not_before x y z e late greater = true≢false (sym (ap is_greater (subst (λ z. class_cmp x z ≡ Greater) (sym e) greater)) ∙ late)

-- a class that is not marked is no other default one
no_mark : (x y z : ClassData) → y ≡ z → is_default y ≡ false → is_default z ≡ true → class_cmp x z ≢ Greater
no_mark x y z e plain marked = absurd (true≢false (sym marked ∙ subst (λ k. is_default k ≡ false) e plain))

-- the classes that were told are these
among : (xs : List Exchange) (ks : List ClassData) (other : ClassData) → classes_in (told_objects (mine xs)) ≡ ks → IsToldClass (mine xs) other → SomeOf (λ k. k ≡ other) ks
among xs ks other e there = subst (λ ks. SomeOf (λ k. k ≡ other) ks) e (newest_class (mine xs) (class_key other.meta.name) other there)

-- where one class was told, and is marked
alone : (xs : List Exchange) (class : ClassData) → classes_in (told_objects (mine xs)) ≡ class ∷ [] → IsToldClass (mine xs) class
    → is_default class ≡ true → is_greater (class_cmp class class) ≡ false → IsDefaultOf (IsToldClass (mine xs)) class
alone xs class only there marked itself = record { there = there; marked = marked; first = λ other told is. not_before class class other (sole (among xs (class ∷ []) other only told)) itself }

-- where two are marked, and the first does not come after the second
before : (xs : List Exchange) (class second : ClassData) → ((other : ClassData) → IsToldClass (mine xs) other → (class ≡ other) ⊎ (second ≡ other))
    → IsToldClass (mine xs) class → is_default class ≡ true → is_greater (class_cmp class class) ≡ false → is_greater (class_cmp class second) ≡ false → IsDefaultOf (IsToldClass (mine xs)) class
before xs class second both there marked itself behind = record { there = there; marked = marked; first = λ other told is. by other (both other told) }
  where
    by : (other : ClassData) → (class ≡ other) ⊎ (second ≡ other) → class_cmp class other ≢ Greater
    by other (inl e) = not_before class class other e itself
    by other (inr e) = not_before class second other e behind

-- where the other one is not marked, or not the newest that was told of its name
beside : (xs : List Exchange) (class second : ClassData) → ((other : ClassData) → IsToldClass (mine xs) other → (class ≡ other) ⊎ (second ≡ other))
    → IsToldClass (mine xs) class → is_default class ≡ true → is_greater (class_cmp class class) ≡ false
    → (IsToldClass (mine xs) second → is_default second ≡ false) → IsDefaultOf (IsToldClass (mine xs)) class
beside xs class second both there marked itself out = record { there = there; marked = marked; first = λ other told is. by other told is (both other told) }
  where
    by : (other : ClassData) → IsToldClass (mine xs) other → is_default other ≡ true → (class ≡ other) ⊎ (second ≡ other) → class_cmp class other ≢ Greater
    by other told is (inl e) = not_before class class other e itself
    by other told is (inr e) = no_mark class second other e (out (subst (λ k. IsToldClass (mine xs) k) (sym e) told)) is

one_or_other : (xs : List Exchange) (first second : ClassData) → classes_in (told_objects (mine xs)) ≡ first ∷ second ∷ [] → (other : ClassData)
    → IsToldClass (mine xs) other → (first ≡ other) ⊎ (second ≡ other)
one_or_other xs first second both other there = by (among xs (first ∷ second ∷ []) other both there)
  where
    by : (first ≡ other) ⊎ ((second ≡ other) ⊎ ⊥) → (first ≡ other) ⊎ (second ≡ other)
    by (inl e) = inl e
    by (inr (inl e)) = inr e
    by (inr (inr h)) = absurd h

swap : {A B : Type 0} → A ⊎ B → B ⊎ A
swap (inl a) = inr a
swap (inr b) = inl b

other_or_one : (xs : List Exchange) (first second : ClassData) → classes_in (told_objects (mine xs)) ≡ first ∷ second ∷ [] → (other : ClassData)
    → IsToldClass (mine xs) other → (second ≡ other) ⊎ (first ≡ other)
other_or_one xs first second both other there = swap (one_or_other xs first second both other there)

abbrev marked_since : List Exchange
marked_since = watches kinds.StorageClass changes.Modified (Class (class_at 10 gold)) 10 ∷ told classless_c (Class (unmarked gold) ∷ [])

abbrev iron_gone : List Exchange
iron_gone = watches kinds.StorageClass changes.Deleted (Class newer_iron) 10 ∷ told classless_c (Class gold ∷ Class newer_iron ∷ [])

abbrev unmarked_since : List Exchange
unmarked_since = watches kinds.StorageClass changes.Modified (Class (class_at 10 (unmarked gold))) 10 ∷ told classless_c (Class gold ∷ [])

abbrev gold_gone : List Exchange
gold_gone = watches kinds.StorageClass changes.Deleted (Class gold) 10 ∷ told classless_c (Class gold ∷ [])

abbrev two_told : ClassData → ClassData → List Exchange
two_told first second = told classless_c (Class first ∷ Class second ∷ [])

abbrev gold_c : ClaimData
gold_c = of_class (codes "gold") classless_c

abbrev leaving_c : ClaimData
leaving_c = record classless_c { meta = deleting c.meta }

abbrev lost_list : List Exchange
lost_list = unheard (lists kinds.StorageClass (Class gold ∷ []) 9) ∷ tells_claim classless_c ∷ []

abbrev false_gold : ClassData
false_gold = marked_by (codes "false") (codes "gold") 3

-- the row allows the class, at the claim that was told first
allowed : (xs : List Exchange) (class : ClassData) → IsDefaultOf (IsToldClass (mine xs)) class → MayAssignClass (mine xs) classless_c (record classless_c { class = Some class.meta.name })
allowed xs class default = record { undone = refl; staying = refl; unnamed = refl; classless = refl; class = class; default = default; change = refl }

written : IsWrittenAt (Some 2) (codes "default") (codes "c") classless_c.meta
written = record { version = refl; placed = refl; named = refl }

only_gold : IsDefaultOf (IsToldClass (mine (told classless_c (Class gold ∷ [])))) gold
only_gold = alone (told classless_c (Class gold ∷ [])) gold refl refl refl refl

-- the row at a claim where gold alone was told
gold_row : (x : ClaimData) → Assign (told x (Class gold ∷ [])) (of_class (codes "gold") x) (Some x.meta.version) → MayAssignClass (mine (told x (Class gold ∷ []))) x (of_class (codes "gold") x)
gold_row x h = (at (told x (Class gold ∷ [])) x (of_class (codes "gold") x) (Some x.meta.version) refl h).1

-- the row at the claim without a class
row : (xs : List Exchange) → claims_in (told_objects (mine xs)) ≡ classless_c ∷ [] → (new : ClaimData) → Assign xs new (Some 2) → MayAssignClass (mine xs) classless_c new
row xs only new h = (at xs classless_c new (Some 2) only h).1

pub default_class_examples : DefaultClassExamples
default_class_examples = record {
  assigns_the_marked_class = (own_kind seats.Binder (told classless_c (Class gold ∷ [])), inr (inl (refl, inl (written, allowed (told classless_c (Class gold ∷ [])) gold only_gold))));
  assigns_beside_an_unmarked_class = (
    own_kind seats.Binder (two_told alloy gold),
    inr
        (inl (refl, inl (written, allowed (two_told alloy gold) gold (beside (two_told alloy gold) gold alloy (other_or_one (two_told alloy gold) alloy gold refl) refl refl refl (λ there. refl))))),
  );
  assigns_the_newer_class = (
    own_kind seats.Binder (two_told gold newer_iron),
    inr
        (inl (
          refl,
          inl (
            written,
            allowed (two_told gold newer_iron) newer_iron (before (two_told gold newer_iron) newer_iron gold
                (other_or_one (two_told gold newer_iron) gold newer_iron refl) refl refl refl refl),
          ),
        )),
  );
  older_class_is_refused = by_rule rules.DefaultClass (two_told gold newer_iron) (assigns (codes "gold") classless_c) refl (λ l. older
      (two_classes (two_told gold newer_iron) classless_c gold_c gold newer_iron refl (row (two_told gold newer_iron) refl gold_c l.1)));
  assigns_the_first_name_of_one_moment = (
    own_kind seats.Binder (two_told gold iron),
    inr
        (inl (refl, inl (written, allowed (two_told gold iron) gold (before (two_told gold iron) gold iron (one_or_other (two_told gold iron) gold iron refl) refl refl refl refl)))),
  );
  second_name_of_one_moment_is_refused = by_rule rules.DefaultClass (two_told gold iron) (assigns (codes "iron") classless_c) refl (λ l. second
      (two_classes (two_told gold iron) classless_c (of_class (codes "iron") classless_c) gold iron refl (row (two_told gold iron) refl (of_class (codes "iron") classless_c) l.1)));
  assigns_what_was_marked_since = (
    own_kind seats.Binder marked_since,
    inr
        (inr (inl (
          refl,
          inl (
            written,
            allowed marked_since (class_at 10 gold)
                (beside marked_since (class_at 10 gold) (unmarked gold) (one_or_other marked_since (class_at 10 gold) (unmarked gold) refl) refl refl refl (λ there. refl)),
          ),
        ))),
  );
  assigns_the_next_where_the_first_is_gone = (
    own_kind seats.Binder iron_gone,
    inr (inr
        (inl (
          refl,
          inl (
            written,
            allowed iron_gone gold (beside iron_gone gold newer_iron (one_or_other iron_gone gold newer_iron refl) refl refl refl
                (λ there. absurd (differ is_none there refl refl))),
          ),
        ))),
  );
  completed_claim_is_refused = by_rule rules.Completion (told completed_classless_c (Class gold ∷ [])) (assigns (codes "gold") completed_classless_c)
      refl (λ l. uncarried (sole
      (claim_row (λ o. MayComplete (mine (told completed_classless_c (Class gold ∷ []))) o (of_class (codes "gold") completed_classless_c))
      (mine (told completed_classless_c (Class gold ∷ []))) (of_class (codes "gold") completed_classless_c) (Some 6) l.1)).1);
  completion_dropped_with_it_is_refused =
      by_rule rules.DefaultClass (told completed_classless_c (Class gold ∷ [])) (requests.Update (Claim uncompleted_gold) (Some 6)) refl
      (λ l. true≢false (at (told completed_classless_c (Class gold ∷ [])) completed_classless_c uncompleted_gold (Some 6) refl l.1).1.undone);
  deleting_claim_is_refused = by_rule rules.DefaultClass (told leaving_c (Class gold ∷ [])) (assigns (codes "gold") leaving_c) refl (λ l. true≢false (gold_row leaving_c l.1).staying);
  claim_that_names_a_volume_is_refused = by_rule rules.DefaultClass (told (naming (codes "a") classless_c) (Class gold ∷ [])) (assigns (codes "gold")
      (naming (codes "a") classless_c)) refl (λ l. true≢false (sym (ap is_empty (gold_row (naming (codes "a") classless_c) l.1).unnamed)));
  claim_with_a_class_is_refused = by_rule rules.DefaultClass (told c (Class gold ∷ [])) (assigns (codes "gold") c) refl (λ l. true≢false (sym (gold_row c l.1).classless));
  claim_with_the_empty_class_is_refused =
      by_rule rules.DefaultClass (told (of_class [] c) (Class gold ∷ [])) (assigns (codes "gold") (of_class [] c)) refl (λ l. true≢false (sym (gold_row (of_class [] c) l.1).classless));
  claim_with_class_in_annotation_is_refused =
      by_rule rules.DefaultClass (told classless_by_annotation (Class gold ∷ [])) (assigns (codes "gold") classless_by_annotation) refl
      (λ l. true≢false (sym (gold_row classless_by_annotation l.1).classless));
  claim_never_told_is_refused = by_rule rules.DefaultClass (lists kinds.StorageClass (Class gold ∷ []) 9 ∷ []) (assigns (codes "gold") classless_c)
      refl (λ l. claim_row (λ o. MayAssignClass (mine (lists kinds.StorageClass (Class gold ∷ []) 9 ∷ [])) o gold_c) (mine (lists kinds.StorageClass (Class gold ∷ []) 9 ∷ [])) gold_c (Some 2) l.1);
  no_class_told_is_refused = by_rule rules.DefaultClass (tells_claim classless_c ∷ []) (assigns (codes "gold") classless_c) refl (λ l. classless
      (tells_claim classless_c ∷ []) classless_c gold_c refl (row (tells_claim classless_c ∷ []) refl gold_c l.1));
  classes_in_lost_answer_is_refused = by_rule rules.DefaultClass lost_list (assigns (codes "gold") classless_c) refl (λ l. classless lost_list classless_c gold_c refl (row lost_list refl gold_c l.1));
  unmarked_class_is_refused = by_rule rules.DefaultClass (told classless_c (Class (unmarked gold) ∷ [])) (assigns (codes "gold") classless_c) refl (λ
      l. true≢false (sym (one_class (told classless_c (Class (unmarked gold) ∷ [])) classless_c gold_c (unmarked gold) refl
      (row (told classless_c (Class (unmarked gold) ∷ [])) refl gold_c l.1)).default.marked));
  other_value_is_no_mark = by_rule rules.DefaultClass (told classless_c (Class false_gold ∷ [])) (assigns (codes "gold") classless_c) refl (λ l.
      true≢false (sym (one_class (told classless_c (Class false_gold ∷ [])) classless_c gold_c false_gold refl (row (told classless_c (Class false_gold ∷ [])) refl gold_c l.1)).default.marked));
  unmarked_since_is_refused = by_rule rules.DefaultClass unmarked_since (assigns (codes "gold") classless_c) refl (λ l. no_more
      (two_classes unmarked_since classless_c gold_c (class_at 10 (unmarked gold)) gold refl (row unmarked_since refl gold_c l.1)));
  told_gone_is_refused = by_rule rules.DefaultClass gold_gone (assigns (codes "gold") classless_c) refl (λ l. differ is_none
      (one_class gold_gone classless_c gold_c gold refl (row gold_gone refl gold_c l.1)).default.there refl refl);
  class_never_told_is_refused = by_rule rules.DefaultClass (told classless_c (Class gold ∷ [])) (assigns (codes "iron") classless_c) refl (λ l.
      differ (is_of (codes "iron")) (one_class (told classless_c (Class gold ∷ [])) classless_c (of_class (codes "iron") classless_c) gold refl
      (row (told classless_c (Class gold ∷ [])) refl (of_class (codes "iron") classless_c) l.1)).change refl refl);
  other_change_beside_is_refused = by_rule rules.DefaultClass (told classless_c (Class gold ∷ [])) (requests.Update
      (Claim (record gold_c { extra = codes "x" })) (Some 2)) refl
      (λ l. true≢false (sym (ap (λ x. is_empty x.extra) (row (told classless_c (Class gold ∷ [])) refl (record gold_c { extra = codes "x" }) l.1).change)));
  no_class_given_is_refused = by_rule rules.DefaultClass (told classless_c (Class gold ∷ [])) (requests.Update (Claim classless_c) (Some 2)) refl (λ
      l. differ (λ x. is_none x.class) (row (told classless_c (Class gold ∷ [])) refl classless_c l.1).change refl refl);
  other_version_is_refused = by_rule rules.DefaultClass (told classless_c (Class gold ∷ [])) (requests.Update (Claim gold_c) (Some 1)) refl (λ l.
      differ (is_version 1) (at (told classless_c (Class gold ∷ [])) classless_c gold_c (Some 1) refl l.1).0.version refl refl);
  without_version_is_refused = by_rule rules.DefaultClass (told classless_c (Class gold ∷ [])) (requests.Update (Claim gold_c) None) refl (λ l.
      differ is_none (at (told classless_c (Class gold ∷ [])) classless_c gold_c None refl l.1).0.version refl refl);
}
  where
    older : Assigned (two_told gold newer_iron) classless_c gold_c gold ⊎ Assigned (two_told gold newer_iron) classless_c gold_c newer_iron → ⊥
    older (inl r) = r.default.first newer_iron refl refl refl
    older (inr r) = differ (is_of (codes "gold")) r.change refl refl

    second : Assigned (two_told gold iron) classless_c (of_class (codes "iron") classless_c) gold ⊎ Assigned (two_told gold iron) classless_c (of_class (codes "iron") classless_c) iron → ⊥
    second (inl r) = differ (is_of (codes "iron")) r.change refl refl
    second (inr r) = r.default.first gold refl refl refl

    no_more : Assigned unmarked_since classless_c gold_c (class_at 10 (unmarked gold)) ⊎ Assigned unmarked_since classless_c gold_c gold → ⊥
    no_more (inl r) = true≢false (sym r.default.marked)
    no_more (inr r) = differ (has_version 10) r.default.there refl refl

    uncarried : MayComplete (mine (told completed_classless_c (Class gold ∷ []))) completed_classless_c (of_class (codes "gold") completed_classless_c) → ⊥
    uncarried h = told_volumes (IsBoundFor completed_classless_c (of_class (codes "gold") completed_classless_c)) (mine (told completed_classless_c (Class gold ∷ []))) h

pub class_field_examples : ClassFieldExamples
unfolding outcome update refuse refuse_field refuse_rule guard_on guard breaks update_fault changed_field create_fault kind_fault claim_fault faulty
    with_status_of updated_object leaves with_meta reply_of xor
class_field_examples = record {
  user_gives_a_class = refl;
  binder_gives_a_class = refl;
  user_gives_the_empty_class = refl;
  class_stays = refl;
  no_class_stays = refl;
  completed_in_the_same_write = refl;
  annotated_in_the_same_write = refl;
  completed_claim_is_refused = refl;
  completed_claim_is_refused_to_the_binder = refl;
  completion_dropped_with_it_is_refused = refl;
  class_in_annotation_is_refused = refl;
  annotation_dropped_with_it_is_refused = refl;
  class_to_another_is_refused = refl;
  class_to_another_is_refused_to_the_binder = refl;
  class_to_none_is_refused = refl;
  empty_class_to_another_is_refused = refl;
  empty_class_to_none_is_refused = refl;
}
