-- The creation of a volume for a claim passes the store's tests where its name is free, and lasts.
use Rattle.std.proofs.Common.{◌≡◌, ◌∙◌, ℕ, zero, suc, ◌+◌, ◌<◌, List, [], ◌∷◌, ◌++◌, length, length-append, Bool, true, false, Option, None, inl, refl, sym, ap, subst, arith, if◌then◌else◌}
use Rattle.std.specs.Prelude.{◌==◌, ◌||◌, nat_le}
use Rattle.std.specs.List.{list_all, slice_split}
use Rattle.std.specs.Int.{to_be_bytes, w128}
use Rattle.std.proofs.lemmas.Bool.{and_from, and_parts}
use Rattle.std.proofs.lemmas.Bool.Decides.{nat_tests}
use Rattle.std.proofs.lemmas.List.Folds.{list_all-append}
use Rattle.uuid.specs.Text.{by_index, digit_place, hex_digit, hyphen, is_hyphen_place, lower, nibble}
use Rattle.uuid.proofs.TextLemmas.{by_index_length, nibble_small}
use Rattle.kube_parts.specs.declared.uid.Uid.{Uid}
use Rattle.kube_objects.specs.declared.objects.Class.{Class as ClassData}
use Rattle.kube_objects.specs.declared.objects.Claim.{Claim as ClaimData}
use Rattle.kube_objects.specs.declared.objects.DataId.{DataId}
use Rattle.kube_objects.specs.declared.objects.Object.{Object}
use Rattle.kube_objects.specs.declared.objects.Object.TheVariants.{Volume, Claim}
use Rattle.kube_objects.specs.Keys.{key_of, row_at}
use Rattle.kube_parts.specs.Uids.{uid_text}
use Rattle.call_types.specs.declared.reply.Reply.TheVariants.{Done}
use Rattle.call_types.specs.declared.request.Request.TheVariants as requests
use Rattle.call_types.specs.declared.request.SeatKind.{SeatKind}
use Rattle.call_types.specs.declared.setup.Setup.{Setup}
use Rattle.binder_model.specs.Answers.{create, is_user, outcome, refuse_field, refuse_rule, reply_of}
use Rattle.binder_model.specs.Devices.{device_answer}
use Rattle.binder_model.specs.Fields.{create_fault, faulty, is_label, is_lower_or_digit, is_name_byte, is_subdomain, kind_fault, volume_fault}
use Rattle.binder_model.specs.ObjectKeys.{volume_key}
use Rattle.binder_model.specs.Provisioning.{data_name, provisioned_volume}
use Rattle.binder_model.specs.Store.{class_name, created_object, default_class, lacks_node}
use Rattle.binder_model.specs.World.{World, effect, on_devices, reply_to}
use Rattle.field_rules.specs.Faults.{ends_well}
use Rattle.field_rules.proofs.Names.{label_by_ends}
use Rattle.settle_writes.specs.Writes.Lasting.{IsChanged, IsLastingWrite, Lasts}
use Rattle.settle_writes.specs.Writes.Valid.{IsValid}
use Rattle.settle_writes.proofs.Writes.Fitting.{claim_facts, refers_well}
use Rattle.settle_writes.proofs.Writes.Making.{no_guard}
use Rattle.model_laws.proofs.Identity.{key-created as created_key}

-- a create over nothing

module _ (setup : Setup) (w : World) (kind : SeatKind) (controller : is_user kind ≡ false) where
  abbrev created : Object → Object
  created o = created_object (class_name (default_class w.store.rows)) o (w.store.version + 1) w.moment

  create_said : (o : Object) → row_at (key_of o) w.store.rows ≡ None → create_fault (lacks_node o w.store.rows) o ≡ None → reply_to (effect setup w kind (requests.Create o)) ≡ Done (created o)
  unfolding effect on_devices device_answer outcome reply_to create refuse_rule refuse_field reply_of
  create_said o free fits = rw (free, no_guard kind None o controller, fits) refl

  pub create_lasts : (o : Object) → row_at (key_of o) w.store.rows ≡ None → create_fault (lacks_node o w.store.rows) o ≡ None → Lasts setup w kind (requests.Create o)
  create_lasts o free fits =
      let key = created_key (class_name (default_class w.store.rows)) o (w.store.version + 1) w.moment in
      inl (subst (IsLastingWrite w.store.rows) (sym (create_said o free fits)) (subst (λ x. IsChanged x (created o)) (sym (ap (λ k. row_at k w.store.rows) key ∙ free)) tt))

-- names of one label

not_dot : (c : ℕ) → is_name_byte c ≡ true → (c == 46) ≡ false
not_dot c e = grind (arith, nat_tests)

undotted : (name : List ℕ) → list_all is_name_byte name ≡ true → slice_split (λ c. c == 46) name ≡ name ∷ []
undotted [] e = refl
undotted (c ∷ cs) e = let p = and_parts (is_name_byte c) (list_all is_name_byte cs) e in rw (not_dot c p.0, undotted cs p.1) refl

-- bytes of a name, with a letter or digit at the end
ends_so : (c : ℕ) (middle : List ℕ) (last : ℕ) → is_name_byte c ≡ true → list_all is_name_byte middle ≡ true → is_lower_or_digit last ≡ true → ends_well c (middle ++ last ∷ []) ≡ true
ends_so c [] last byte all end = and_from (is_name_byte c) (is_lower_or_digit last) byte end
ends_so c (d ∷ ds) last byte all end =
    let p = and_parts (is_name_byte d) (list_all is_name_byte ds) all in
    and_from (is_name_byte c) (ends_well d (ds ++ last ∷ [])) byte (ends_so d ds last p.0 p.1 end)

module _ (first : ℕ) (middle : List ℕ) (last : ℕ) (begins : is_lower_or_digit first ≡ true) (all : list_all is_name_byte middle ≡ true) (ends : is_lower_or_digit last ≡ true) where
  byte_of : (c : ℕ) → is_lower_or_digit c ≡ true → is_name_byte c ≡ true
  byte_of c e = ap (λ b. b || c == 45) e

  label_so : is_label (first ∷ middle ++ last ∷ []) ≡ true
  label_so = label_by_ends first (middle ++ last ∷ []) ∙ and_from (is_lower_or_digit first) (ends_well first (middle ++ last ∷ [])) begins (ends_so first middle last (byte_of first begins) all ends)

  bytes_so : list_all is_name_byte (first ∷ middle ++ last ∷ []) ≡ true
  bytes_so =
      let end : list_all is_name_byte (last ∷ []) ≡ true = and_from (is_name_byte last) true (byte_of last ends) refl in
      and_from (is_name_byte first) (list_all is_name_byte (middle ++ last ∷ [])) (byte_of first begins)
      (list_all-append is_name_byte middle (last ∷ []) ∙ and_from (list_all is_name_byte middle) (list_all is_name_byte (last ∷ [])) all end)

  subdomain_so : nat_le (length (first ∷ middle ++ last ∷ [])) 253 ≡ true → is_subdomain (first ∷ middle ++ last ∷ []) ≡ true
  subdomain_so short = rw (short, undotted (first ∷ middle ++ last ∷ []) bytes_so, label_so) refl

-- the text of a UID

digit_fits : (d : ℕ) → d < 16 → is_lower_or_digit (hex_digit lower d) ≡ true
digit_fits d small = grind (arith, nat_tests)

abbrev text_byte : List ℕ → ℕ → ℕ
text_byte bytes k = if is_hyphen_place k then hyphen else hex_digit lower (nibble bytes (digit_place k))

byte_fits : (bytes : List ℕ) (k : ℕ) → is_name_byte (text_byte bytes k) ≡ true
byte_fits bytes k = by (is_hyphen_place k)
  where
    by : (b : Bool) → is_name_byte (if b then hyphen else hex_digit lower (nibble bytes (digit_place k))) ≡ true
    by true = refl
    by false = ap (λ b. b || hex_digit lower (nibble bytes (digit_place k)) == 45) (digit_fits (nibble bytes (digit_place k)) (nibble_small bytes (digit_place k)))

all_by_index : (p : ℕ → Bool) (n : ℕ) (f : ℕ → ℕ) → ((k : ℕ) → p (f k) ≡ true) → list_all p (by_index n f) ≡ true
unfolding by_index
all_by_index p zero f each = refl
all_by_index p (suc n) f each = list_all-append p (by_index n f) (f n ∷ [])
    ∙ and_from (list_all p (by_index n f)) (list_all p (f n ∷ [])) (all_by_index p n f each) (and_from (p (f n)) true (each n) refl)

named_so : (bytes : List ℕ) → is_subdomain (112 ∷ (118 ∷ 99 ∷ 45 ∷ by_index 35 (text_byte bytes)) ++ text_byte bytes 35 ∷ []) ≡ true
named_so bytes =
    let middle : list_all is_name_byte (118 ∷ 99 ∷ 45 ∷ by_index 35 (text_byte bytes)) ≡ true = all_by_index is_name_byte 35 (text_byte bytes) (byte_fits bytes) in
    let size : length (by_index 35 (text_byte bytes) ++ text_byte bytes 35 ∷ []) ≡ 36 =
    omega (arith, length-append (by_index 35 (text_byte bytes)) (text_byte bytes 35 ∷ []), by_index_length 35 (text_byte bytes)) in
    subdomain_so 112 (118 ∷ 99 ∷ 45 ∷ by_index 35 (text_byte bytes)) (text_byte bytes 35) refl middle
    (digit_fits (nibble bytes 31) (nibble_small bytes 31)) (ap (λ n. nat_le (suc (suc (suc (suc n)))) 253) size)

-- so the name of a claim's data is one that the store takes
pub data_names_fit : (uid : Uid) → is_subdomain (data_name uid) ≡ true
unfolding uid_text by_index
data_names_fit uid = named_so (to_be_bytes w128 uid.0)

-- the volume for a claim

provisioned_fits : (c : ClaimData) (uid : Uid) (x : ClassData) (id : DataId) (topology : Option (List ℕ × List ℕ)) → IsValid (Claim c)
    → create_fault false (Volume (provisioned_volume c uid x id topology)) ≡ None
unfolding create_fault kind_fault volume_fault faulty provisioned_volume
provisioned_fits c uid x id topology valid = let f = claim_facts c valid in rw (data_names_fit uid, f.sized, f.moded, refers_well c valid) refl

pub provisioned_lasts : (setup : Setup) (w : World) (kind : SeatKind) (c : ClaimData) (uid : Uid) (x : ClassData) (id : DataId) (topology : Option (List ℕ × List ℕ))
    → is_user kind ≡ false → IsValid (Claim c) → row_at (volume_key (data_name uid)) w.store.rows ≡ None → Lasts setup w kind (requests.Create (Volume (provisioned_volume c uid x id topology)))
unfolding provisioned_volume lacks_node
provisioned_lasts setup w kind c uid x id topology controller valid free =
    create_lasts setup w kind controller (Volume (provisioned_volume c uid x id topology)) free (provisioned_fits c uid x id topology valid)
