-- What is printed of a volume is read again.
use Rattle.std.proofs.Common.{◌≡◌, ℕ, ◌≤◌, List, [], ◌∷◌, ◌++◌, true, false, Option, Some, None, Ok, codes, bytes_eq, refl, sym, ap, ◌∙◌, append-nil, append_assoc, arith}
use Rattle.std.specs.Prelude.{IfSome, option_map}
use Rattle.serde_json.specs.Data.{Data, object, Members, no_members}
use Rattle.serde_json.specs.Find.{get_member}
use Rattle.json_text.specs.Look.{unless_null}
use Rattle.json_text.specs.Build.{put_some, put_all, pick, AreOthers, are_known}
use Rattle.json_text.proofs.PutAll.{get-put_all}
use Rattle.kube_parts.specs.declared.parts.Policy.{Policy}
use Rattle.kube_parts.specs.declared.parts.Policy.TheVariants as policies
use Rattle.kube_parts.specs.declared.parts.VolumePhase.{VolumePhase}
use Rattle.kube_parts.specs.declared.parts.VolumePhase.TheVariants as volume_phases
use Rattle.kube_parts.specs.declared.parts.SourceKind.{SourceKind}
use Rattle.kube_parts.specs.declared.parts.SourceKind.TheVariants.{Csi, Nfs, Local, HostPath}
use Rattle.kube_objects.specs.declared.objects.Ref.{Ref}
use Rattle.kube_objects.specs.declared.objects.Source.{Source}
use Rattle.kube_objects.specs.declared.objects.Expr.{Expr}
use Rattle.kube_objects.specs.declared.objects.NodeTerms.{NodeTerms}
use Rattle.kube_objects.specs.declared.objects.Volume.{Volume}
use Rattle.kube_parts.specs.Words.{policy_word, source_word, volume_phase_word}
use Rattle.kube_parts.specs.Named.{policy_named, volume_phase_named}
use Rattle.kube_parts.proofs.NamedWords.{policies_inverse, volume_phases_inverse}
use Rattle.json_text.specs.Members.{MemberList, text, items_data, object_of}
use Rattle.object_print.specs.Parts.{modes_data, storage_pairs, storage_data, ref_pairs, ref_data, source_pairs, source_data, term_pairs, term_data, node_terms_data}
use Rattle.object_print.specs.Volumes.{volume_front, volume_back as printed_back, volume_spec, volume_status_pairs, volume_status, volume_pairs, volume_data}
use Rattle.object_text.specs.declared.errors.Member.{Member}
use Rattle.object_text.specs.declared.errors.Member.TheVariants as members
use Rattle.object_text.specs.declared.extra.Listed.TheVariants as listed
use Rattle.object_text.specs.Answers.{◌>>=◌}
use Rattle.object_text.specs.MemberWords.{member_word}
use Rattle.object_text.specs.MemberReaders.{at, way_from, some_object_at, optional_items}
use Rattle.object_text.specs.PartReaders.{known, policy_at, volume_phase_at, ref_at, ref_or_none, claim_ref_at, there, source_at, term_of, terms_from, terms_or_none, terms_at}
use Rattle.object_text.specs.ExtraMembers.{is_listed_member}
use Rattle.object_text.specs.KindReaders.{volume_shape, volume_ties, volume_spec_of, volume_status_of, volume_of}
use Rattle.object_laws.specs.Given.{IsRef, IsAmount, HasItsTexts, IsSource, IsFree, NoneBefore, AreVolumeExtra, IsVolume}
use Rattle.object_laws.proofs.PartsBack.{next, object_has, needed_text_back, shown_text_back, text_back, needed_way_back, object_at_back, uid_back, quantity_back, modes_back, block_back, exprs_back}
use Rattle.object_laws.proofs.MetaBack.{meta_back}
use Rattle.object_laws.proofs.ExtraBack.{extra_back, spec_has, kept_back}

-- ---- words

policy_back : (place : Option Data) (p : Policy) → at members.PersistentVolumeReclaimPolicy place ≡ text (policy_word p) → policy_at place ≡ Ok p
unfolding policy_at
policy_back place p h =
    next (λ s. known members.PersistentVolumeReclaimPolicy (policy_named s)) (shown_text_back members.PersistentVolumeReclaimPolicy (policy_word policies.Retain) place (policy_word p) h)
    ∙ ap (known members.PersistentVolumeReclaimPolicy) (policies_inverse.back p)

phase_back : (place : Option Data) (p : VolumePhase) → at members.Phase place ≡ text (volume_phase_word p) → volume_phase_at place ≡ Ok p
unfolding volume_phase_at
phase_back place p h =
    next (λ s. known members.Phase (volume_phase_named s)) (shown_text_back members.Phase (volume_phase_word volume_phases.Pending) place (volume_phase_word p) h)
    ∙ ap (known members.Phase) (volume_phases_inverse.back p)

-- ---- the claim of a volume

ref_back : (r : Ref) → IsRef r → ref_at (Some (object_of (ref_pairs r))) ≡ Ok r
unfolding ref_at
ref_back r is =
    let place : Option Data = Some (object_of (ref_pairs r)) in
    let ps : MemberList = ref_pairs r in
    rw (
      needed_text_back members.Namespace place r.namespace (object_has members.Namespace ps),
      needed_text_back members.Name place r.name (object_has members.Name ps),
      uid_back members.Uid place r.uid is (object_has members.Uid ps),
    ) refl

claim_ref_back : (place : Option Data) (o : Option Ref) → IfSome o IsRef → at members.ClaimRef place ≡ option_map ref_data o → claim_ref_at place ≡ Ok o
unfolding claim_ref_at ref_data
claim_ref_back place o is h = ap (λ p. way_from members.ClaimRef p >>= λ q. ref_or_none q) h ∙ by o is
  where
    by : (r : Option Ref) → IfSome r IsRef → (way_from members.ClaimRef (option_map ref_data r) >>= λ q. ref_or_none q) ≡ Ok r
    by None k = refl
    by (Some r) k = next (λ x. Ok (Some x)) (ref_back r k)

-- ---- the source of a volume

abbrev source_with : SourceKind → List ℕ → List ℕ → Source
source_with kind first second = record { kind = kind; first = first; second = second }

csi_back : (place : Option Data) (s t : List ℕ) → at members.Csi place ≡ Some (source_data (source_with Csi s t)) → source_at place ≡ Ok (source_with Csi s t)
unfolding source_at source_data
csi_back place s t h =
    let ps : MemberList = source_pairs Csi s t in
    rw h (rw (
      needed_text_back members.Driver (Some (object_of ps)) s (object_has members.Driver ps),
      needed_text_back members.VolumeHandle (Some (object_of ps)) t (object_has members.VolumeHandle ps),
    ) refl)

nfs_back : (place : Option Data) (s t : List ℕ) → there members.Csi place ≡ None → at members.Nfs place ≡ Some (source_data (source_with Nfs s t)) → source_at place ≡ Ok (source_with Nfs s t)
unfolding source_at source_data
nfs_back place s t csi h =
    let ps : MemberList = source_pairs Nfs s t in
    rw (csi, h) (rw (needed_text_back members.Server (Some (object_of ps)) s (object_has members.Server ps), needed_text_back members.Path (Some (object_of ps)) t (object_has members.Path ps)) refl)

local_back : (place : Option Data) (s : List ℕ) → there members.Csi place ≡ None → there members.Nfs place ≡ None
    → at members.Local place ≡ Some (source_data (source_with Local s [])) → source_at place ≡ Ok (source_with Local s [])
unfolding source_at source_data
local_back place s csi nfs h =
    let ps : MemberList = source_pairs Local s [] in
    rw (csi, nfs, h) (rw (needed_text_back members.Path (Some (object_of ps)) s (object_has members.Path ps)) refl)

host_back : (place : Option Data) (s : List ℕ) → there members.Csi place ≡ None → there members.Nfs place ≡ None → there members.Local place ≡ None
    → at members.HostPath place ≡ Some (source_data (source_with HostPath s [])) → source_at place ≡ Ok (source_with HostPath s [])
unfolding source_at source_data
host_back place s csi nfs local h =
    let ps : MemberList = source_pairs HostPath s [] in
    rw (csi, nfs, local, h) (rw (needed_text_back members.Path (Some (object_of ps)) s (object_has members.Path ps)) refl)

-- ---- node affinity

term_back : (es : List Expr) → term_of (term_data es) ≡ Ok es
unfolding term_of term_data
term_back es = exprs_back (Some (object_of (term_pairs es))) es (object_has members.MatchExpressions (term_pairs es))

terms_items : (ts found : List (List Expr)) → terms_from (items_data term_data ts) found ≡ Ok (found ++ ts)
terms_items [] found = ap Ok (sym (append-nil found))
terms_items (t ∷ ts) found = next (λ x. terms_from (items_data term_data ts) (found ++ x ∷ [])) (term_back t) ∙ terms_items ts (found ++ t ∷ []) ∙ ap Ok (append_assoc found (t ∷ []) ts)

terms_back : (place : Option Data) (o : Option NodeTerms) → at members.NodeAffinity place ≡ option_map node_terms_data o → terms_at place ≡ Ok o
unfolding terms_at node_terms_data put_some
terms_back place o h = ap (λ p. way_from members.NodeAffinity p >>= λ a. some_object_at members.Required a >>= λ r. optional_items members.NodeSelectorTerms r >>= λ l. terms_or_none l) h ∙ by o
  where
    by : (t : Option NodeTerms) → (way_from members.NodeAffinity (option_map node_terms_data t) >>= λ a. some_object_at members.Required a >>= λ r.
        optional_items members.NodeSelectorTerms r >>= λ l. terms_or_none l) ≡ Ok t
    by None = refl
    by (Some t) = next (λ ts. Ok (Some (record { terms = ts }))) (terms_items t.terms [])

-- ---- the spec

abbrev spec_pairs : Volume → MemberList
spec_pairs v = volume_front v ++ printed_back v

abbrev spec_with : Volume → Members → Option Data
spec_with v ms = Some (object (put_all (spec_pairs v) ms))

-- the members that stand whatever the source is
abbrev plain_pairs : Volume → MemberList
plain_pairs v =
    (codes "accessModes", Some (modes_data v.modes))
    ∷ (codes "capacity", Some (storage_data v.amount))
    ∷ (codes "claimRef", option_map ref_data v.claim_ref)
    ∷ printed_back v

-- a name that is that of no source
apart : (k : List ℕ) → bytes_eq k (codes "csi") ≡ false → bytes_eq k (codes "nfs") ≡ false → bytes_eq k (codes "local") ≡ false → bytes_eq k (codes "hostPath") ≡ false
    → (kind : SourceKind) → bytes_eq k (source_word kind) ≡ false
apart k csi nfs local host Csi = csi
apart k csi nfs local host Nfs = nfs
apart k csi nfs local host Local = local
apart k csi nfs local host HostPath = host

plain_has : (v : Volume) (ms : Members) → AreOthers (is_listed_member (listed.Volume v.source.kind)) ms → (m : Member) → is_listed_member (listed.Volume v.source.kind) (member_word m) ≡ true
    → bytes_eq (member_word m) (codes "csi") ≡ false → bytes_eq (member_word m) (codes "nfs") ≡ false
    → bytes_eq (member_word m) (codes "local") ≡ false → bytes_eq (member_word m) (codes "hostPath") ≡ false
    → at m (spec_with v ms) ≡ pick (member_word m) (plain_pairs v) None
plain_has v ms h m known csi nfs local host =
    spec_has (listed.Volume v.source.kind) (spec_pairs v) ms (member_word m) h known ∙ skipped (member_word m) (apart (member_word m) csi nfs local host v.source.kind)
  where
    skipped : (k : List ℕ) → bytes_eq k (source_word v.source.kind) ≡ false → pick k (spec_pairs v) None ≡ pick k (plain_pairs v) None
    skipped k e = rw e refl

shape_back : (v : Volume) (ms : Members) → IsAmount v.amount → AreOthers (is_listed_member (listed.Volume v.source.kind)) ms
    → volume_shape (spec_with v ms) ≡ Ok (record { amount = v.amount; modes = v.modes; block = v.block; class = v.class; policy = v.policy })
unfolding volume_shape storage_data
shape_back v ms is h =
    let place : Option Data = spec_with v ms in
    let has = plain_has v ms h in
    let capacity = needed_way_back members.Capacity place (put_all (storage_pairs v.amount) no_members) (has members.Capacity refl refl refl refl refl) in
    let amount = quantity_back members.Storage (Some (object_of (storage_pairs v.amount))) v.amount is (object_has members.Storage (storage_pairs v.amount)) in
    let modes = modes_back place v.modes (has members.AccessModes refl refl refl refl refl) in
    let block = block_back place v.block (has members.VolumeMode refl refl refl refl refl) in
    let class = text_back members.StorageClassName place v.class (has members.StorageClassName refl refl refl refl refl) in
    let policy = policy_back place v.policy (has members.PersistentVolumeReclaimPolicy refl refl refl refl refl) in
    rw (capacity, amount, modes, block, class, policy) refl

abbrev spec_of : Volume → SourceKind → List ℕ → List ℕ → MemberList
spec_of v kind s t = spec_pairs (record v { source = source_with kind s t })

source_has : (v : Volume) (ms : Members) (kind : SourceKind) (s t : List ℕ) → AreOthers (is_listed_member (listed.Volume kind)) ms
    → get_member (source_word kind) (put_all (spec_of v kind s t) ms) ≡ Some (source_data (source_with kind s t))
source_has v ms Csi s t h = spec_has (listed.Volume Csi) (spec_of v Csi s t) ms (codes "csi") h refl
source_has v ms Nfs s t h = spec_has (listed.Volume Nfs) (spec_of v Nfs s t) ms (codes "nfs") h refl
source_has v ms Local s t h = spec_has (listed.Volume Local) (spec_of v Local s t) ms (codes "local") h refl
source_has v ms HostPath s t h = spec_has (listed.Volume HostPath) (spec_of v HostPath s t) ms (codes "hostPath") h refl

-- what is not printed, and null or absent among the kept members
still_free : (k : List ℕ) (ps : MemberList) (ms : Members) → pick k ps (get_member k ms) ≡ get_member k ms → IsFree k ms → unless_null (get_member k (put_all ps ms)) ≡ None
still_free k ps ms same free = ap unless_null (get-put_all k ps ms ∙ same) ∙ free

spec_source_back : (v : Volume) (ms : Members) → IsSource v.source → AreOthers (is_listed_member (listed.Volume v.source.kind)) ms
    → NoneBefore v.source.kind ms → source_at (spec_with v ms) ≡ Ok v.source
spec_source_back v ms is h free = by v.source.kind v.source.first v.source.second is h free
  where
    by : (kind : SourceKind) (s t : List ℕ) → HasItsTexts kind t → AreOthers (is_listed_member (listed.Volume kind)) ms → NoneBefore kind ms
        → source_at (Some (object (put_all (spec_of v kind s t) ms))) ≡ Ok (source_with kind s t)
    by Csi s t its o f = csi_back (Some (object (put_all (spec_of v Csi s t) ms))) s t (source_has v ms Csi s t o)
    by Nfs s t its o f =
        let ps : MemberList = spec_of v Nfs s t in
        nfs_back (Some (object (put_all ps ms))) s t (still_free (codes "csi") ps ms refl f) (source_has v ms Nfs s t o)
    by Local s t its o f =
        let ps : MemberList = spec_of v Local s [] in
        rw its (local_back (Some (object (put_all ps ms))) s (still_free (codes "csi") ps ms refl f.0) (still_free (codes "nfs") ps ms refl f.1) (source_has v ms Local s [] o))
    by HostPath s t its o f =
        let ps : MemberList = spec_of v HostPath s [] in
        rw its (host_back (Some (object (put_all ps ms))) s (still_free (codes "csi") ps ms refl f.0) (still_free (codes "nfs") ps ms refl f.1)
        (still_free (codes "local") ps ms refl f.2) (source_has v ms HostPath s [] o))

ties_back : (v : Volume) (ms : Members) → IsVolume v → AreOthers (is_listed_member (listed.Volume v.source.kind)) ms → NoneBefore v.source.kind ms
    → volume_ties (spec_with v ms) ≡ Ok (record { claim_ref = v.claim_ref; source = v.source; terms = v.terms })
unfolding volume_ties
ties_back v ms is h free =
    let place : Option Data = spec_with v ms in
    let has = plain_has v ms h in
    let claim_ref = claim_ref_back place v.claim_ref is.claim_ref (has members.ClaimRef refl refl refl refl refl) in
    let terms = terms_back place v.terms (has members.NodeAffinity refl refl refl refl refl) in
    rw (claim_ref, spec_source_back v ms is.source h free, terms) refl

-- the printed names are known
all_known : (v : Volume) → are_known (is_listed_member (listed.Volume v.source.kind)) (spec_pairs v) ≡ true
all_known v = by v.source.kind
  where
    by : (kind : SourceKind) → are_known (is_listed_member (listed.Volume kind)) (spec_of v kind [] []) ≡ true
    by Csi = refl
    by Nfs = refl
    by Local = refl
    by HostPath = refl

-- ---- the volume

spec_is : (v : Volume) (ms : Members) → AreVolumeExtra v.source.kind v.extra ms → Some (volume_spec v) ≡ spec_with v ms
unfolding volume_spec
spec_is v ms h =
    let fits : 125 ≤ 126 = omega arith in
    ap (λ kept. Some (object (put_all (spec_pairs v) kept))) (extra_back 125 (listed.Volume v.source.kind) v.extra ms fits h.extra)

volume_has : (m : Member) (v : Volume) → at m (Some (volume_data v)) ≡ pick (member_word m) (volume_pairs v) None
unfolding volume_data
volume_has m v = object_has m (volume_pairs v)

spec_back : (v : Volume) → IsVolume v
    → volume_spec_of (volume_data v) ≡ Ok (record {
      shape = record { amount = v.amount; modes = v.modes; block = v.block; class = v.class; policy = v.policy };
      ties =
          record { claim_ref = v.claim_ref; source = v.source; terms = v.terms };
      extra = v.extra;
    })
unfolding volume_spec_of
spec_back v h =
    let ms : Members = h.extra.0 in
    let kept : AreVolumeExtra v.source.kind v.extra ms = h.extra.1 in
    let spec = needed_way_back members.Spec (Some (volume_data v)) (put_all (spec_pairs v) ms) (volume_has members.Spec v ∙ spec_is v ms kept) in
    let extra = kept_back 125 (listed.Volume v.source.kind) (spec_pairs v) v.extra ms kept.extra (all_known v) in
    rw (spec, shape_back v ms h.amount kept.extra.others, ties_back v ms h kept.extra.others kept.free, extra) refl

status_back : (v : Volume) → volume_status_of (volume_data v) ≡ Ok v.phase
unfolding volume_status_of volume_status
status_back v =
    let status = object_at_back members.Status (Some (volume_data v)) (put_all (volume_status_pairs v) no_members) (volume_has members.Status v) in
    rw status (phase_back (Some (object_of (volume_status_pairs v))) v.phase (object_has members.Phase (volume_status_pairs v)))

pub volume_back : (v : Volume) → IsVolume v → volume_of (volume_data v) ≡ Ok v
unfolding volume_of
volume_back v h = rw (meta_back false v.meta (volume_data v) h.meta (volume_has members.Metadata v), spec_back v h, status_back v) refl
