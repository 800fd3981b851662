-- What passes, and what stands apart and under mounts, computed.
use Rattle.std.proofs.Common.{refl, sym, ap, ◌∙◌, subst, inl, inr, true≢false}
use Rattle.std.specs.Prelude.{◌≡◌, ◌≢◌, true, false, [], ◌∷◌, bytes_eq}
use Rattle.kube_parts.specs.declared.uid.Uid.{Uid}
use Rattle.binder_model.specs.Devices.{MountAt}
use Rattle.binder_model.specs.Told.{SomeOf}
use Rattle.attach_law.specs.declared.attachment.Attachment.{Attachment}
use Rattle.attach_law.specs.Attached.{IsAmong, claim_with, is_claim_attached}
use Rattle.attach_examples.specs.Listed.{ApartExamples, CarriedExamples, PassingExamples, UidExamples}
use Rattle.attach_examples.specs.Small.{claim_uid, first_uid, n1, n2, on, once, rows_by}

pub uid_examples : UidExamples
uid_examples = record { volume = refl; claim_there = refl; no_volume = refl; no_claim = refl; own = refl; anothers = refl; gone = refl }

pub passing_examples : PassingExamples
passing_examples = record { mount = refl; elsewhere = refl; nowhere = refl; no_claim = refl; one_of_two = refl; none = refl; other = refl }

-- ---- apart

two_nodes : n1 ≢ n2
two_nodes e = true≢false (ap (λ n. bytes_eq n n1) e)

each_many : (a : Attachment) → IsAmong a (on n1 true ∷ on n2 true ∷ []) → a.many ≡ true
each_many a h = elim h [
  | inl is ↦ ap (λ (x : Attachment). x.many) (sym is)
  | inr more ↦ elim more [ inl is ↦ ap (λ (x : Attachment). x.many) (sym is) | inr none ↦ absurd none ]
]

on_first : (a : Attachment) → IsAmong a (on n1 false ∷ []) → a.node ≡ n1
on_first a h = elim h [ inl is ↦ ap (λ (x : Attachment). x.node) (sym is) | inr none ↦ absurd none ]

pub apart_examples : ApartExamples
apart_examples = record {
  many = λ a b in_a in_b same other. (each_many a in_a, each_many b in_b);
  one_node = λ a b in_a in_b same other. absurd (other (on_first a in_a ∙ sym (on_first b in_b)));
  mixed = λ apart. true≢false (sym (apart (on n1 true) (on n2 false) (inl refl) (inr (inl refl)) refl two_nodes).1);
  single = λ apart. true≢false (sym (apart (on n1 false) (on n2 false) (inl refl) (inr (inl refl)) refl two_nodes).0);
}

-- ---- carried

abbrev the_mount : MountAt
the_mount = record { node = n1; row = record { pod = first_uid; claims = claim_uid ∷ [] } }

pub carried_examples : CarriedExamples
carried_examples = record {
  there = λ m u in_m in_u. elim in_m [ inl is ↦ it m is u in_u | inr none ↦ absurd none ];
  no_mount = λ m u in_m in_u. absurd in_m;
  elsewhere = λ carried. true≢false (sym (carried the_mount claim_uid (inl refl) (inl refl)));
  no_volume = λ carried. true≢false (sym (carried the_mount claim_uid (inl refl) (inl refl)));
}
  where
    it : (m : MountAt) → the_mount ≡ m → (u : Uid) → SomeOf (λ x. x ≡ u) m.row.claims → is_claim_attached (rows_by once) (claim_with u (rows_by once)) m.node (on n1 false ∷ []) ≡ true
    it m is = subst (λ (x : MountAt). (u : Uid) → SomeOf (λ y. y ≡ u) x.row.claims → is_claim_attached (rows_by once) (claim_with u (rows_by once)) x.node (on n1 false ∷ []) ≡ true) is
        (λ u in_u. elim in_u [ inl e ↦ subst (λ y. is_claim_attached (rows_by once) (claim_with y (rows_by once)) n1 (on n1 false ∷ []) ≡ true) e refl | inr none ↦ absurd none ])
