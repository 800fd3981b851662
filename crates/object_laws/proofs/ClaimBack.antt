-- What is printed of a claim is read again.
use Rattle.std.proofs.Common.{◌≡◌, ℕ, List, [], ◌∷◌, ◌++◌, true, Option, Some, None, IfSome, Ok, codes, option_map, refl, ap, ◌∙◌, arith}
use Rattle.serde_json.specs.Data.{Data, string, object, Members, no_members, member}
use Rattle.serde_json.specs.Find.{get, get_member}
use Rattle.json_text.specs.Build.{put_some, put_all, pick}
use Rattle.json_text.proofs.PutAll.{get-put_all}
use Rattle.kube_parts.specs.Words.{mode_words, claim_phase_word}
use Rattle.kube_parts.specs.Named.{claim_phase_named}
use Rattle.kube_parts.proofs.NamedWords.{claim_phases_inverse}
use Rattle.kube_parts.specs.declared.parts.Modes.{Modes}
use Rattle.kube_parts.specs.declared.parts.ClaimPhase.{ClaimPhase}
use Rattle.kube_parts.specs.declared.parts.ClaimPhase.TheVariants.{Pending}
use Rattle.kube_objects.specs.declared.objects.Amount.{Amount}
use Rattle.kube_objects.specs.declared.objects.Selector.{Selector}
use Rattle.kube_objects.specs.declared.objects.Claim.{Claim}
use Rattle.json_text.specs.Members.{MemberList, items_data, filled_array}
use Rattle.object_print.specs.Parts.{modes_data, storage_data, requests_data, selector_pairs, selector_data}
use Rattle.object_print.specs.Claims.{claim_front, claim_back as back_pairs, claim_spec, got_modes, claim_status_pairs, claim_status, claim_pairs, claim_data}
use Rattle.object_text.specs.declared.errors.Member.TheVariants as members
use Rattle.object_text.specs.declared.extra.Listed.TheVariants as listed
use Rattle.object_text.specs.Answers.{◌>>=◌}
use Rattle.object_text.specs.MemberReaders.{at, way_from, optional_items_from}
use Rattle.object_text.specs.PartReaders.{known, modes_from, no_modes, modes_or_none, optional_modes, optional_quantity, claim_phase_at, selector_of, selector_at}
use Rattle.object_text.specs.KindReaders.{claim_shape, claim_ties, claim_status_of, claim_of}
use Rattle.object_text.specs.ExtraMembers.{is_listed_member}
use Rattle.object_laws.specs.Given.{IsAmount, IsSelector, AreExtra, IsClaim}
use Rattle.object_laws.proofs.ExtraBack.{extra_back, spec_has, kept_back}
use Rattle.object_laws.proofs.PartsBack.{next, shown_text_back, text_back, optional_text_back, pairs_back, quantity_back, modes_items, modes_back, block_back, exprs_back}
use Rattle.object_laws.proofs.MetaBack.{meta_back}

-- ---- parts

storage_is : (a : Amount) → storage_data a ≡ object (member (codes "storage") (string a.text) no_members)
unfolding storage_data put_some
storage_is a = refl

requests_are : (a : Amount) → requests_data a ≡ object (member (codes "requests") (storage_data a) no_members)
unfolding requests_data put_some
requests_are a = refl

selector_is : (s : Selector) → selector_data s ≡ object (put_all (selector_pairs s) no_members)
unfolding selector_data
selector_is s = refl

members_back : (s : Selector) → IsSelector s → selector_of (Some (object (put_all (selector_pairs s) no_members))) ≡ Ok s
unfolding selector_of
members_back s h =
    let place : Option Data = Some (object (put_all (selector_pairs s) no_members)) in
    rw (
      pairs_back members.MatchLabels place s.labels h (get-put_all (codes "matchLabels") (selector_pairs s) no_members),
      exprs_back place s.exprs (get-put_all (codes "matchExpressions") (selector_pairs s) no_members),
    ) refl

selector_back : (place : Option Data) (o : Option Selector) → IfSome o IsSelector → at members.Selector place ≡ option_map selector_data o → selector_at place ≡ Ok o
unfolding selector_at
selector_back place None h e = rw e refl
selector_back place (Some s) h e = rw (e, selector_is s, members_back s h) refl

phase_back : (place : Option Data) (p : ClaimPhase) → at members.Phase place ≡ Some (string (claim_phase_word p)) → claim_phase_at place ≡ Ok p
unfolding claim_phase_at
phase_back place p h =
    next (λ s. known members.Phase (claim_phase_named s)) (shown_text_back members.Phase (claim_phase_word Pending) place (claim_phase_word p) h)
    ∙ ap (known members.Phase) (claim_phases_inverse.back p)

-- ---- the modes of what a claim got

words_read : (words : List (List ℕ)) (m : Modes) → modes_from (items_data string words) no_modes ≡ Ok m
    → (optional_items_from members.AccessModes (filled_array string words) >>= λ o. modes_or_none o) ≡ Ok m
words_read [] m h = h
words_read (w ∷ ws) m h = h

got_modes_back : (place : Option Data) (got : Option Amount) (m : Modes) → at members.AccessModes place ≡ got_modes got m → optional_modes place ≡ Ok m
unfolding optional_modes modes_data
got_modes_back place None m e = rw e (words_read (mode_words m) m (modes_items m))
got_modes_back place (Some a) m e = rw e (modes_items m)

-- ---- what it got

capacity_back : (got : Option Amount) → way_from members.Capacity (option_map storage_data got) ≡ Ok (option_map storage_data got)
capacity_back None = refl
capacity_back (Some a) = rw (storage_is a) refl

got_back : (got : Option Amount) → IfSome got IsAmount → optional_quantity members.Storage (option_map storage_data got) ≡ Ok got
unfolding optional_quantity
got_back None h = refl
got_back (Some a) h = rw (storage_is a, h) refl

-- ---- the status

claim_has : (k : List ℕ) (c : Claim) → get k (claim_data c) ≡ pick k (claim_pairs c) None
unfolding claim_data
claim_has k c = get-put_all k (claim_pairs c) no_members

status_is : (c : Claim) → claim_status c ≡ object (put_all (claim_status_pairs c) no_members)
unfolding claim_status
status_is c = refl

status_back : (c : Claim) → IfSome c.got IsAmount → claim_status_of (claim_data c) ≡ Ok (record { phase = c.phase; got_modes = c.got_modes; got = c.got })
unfolding claim_status_of
status_back c h =
    let place : Option Data = Some (object (put_all (claim_status_pairs c) no_members)) in
    let has : (k : List ℕ) → get_member k (put_all (claim_status_pairs c) no_members) ≡ pick k (claim_status_pairs c) None = λ k. get-put_all k (claim_status_pairs c) no_members in
    rw (claim_has (codes "status") c, status_is c)
    (rw (phase_back place c.phase (has (codes "phase")), got_modes_back place c.got c.got_modes (has (codes "accessModes")), has (codes "capacity"), capacity_back c.got, got_back c.got h) refl)

-- ---- the spec

abbrev spec_pairs : Claim → MemberList
spec_pairs c = claim_front c ++ back_pairs c

abbrev spec_place : Claim → Members → Option Data
spec_place c ms = Some (object (put_all (spec_pairs c) ms))

spec_is : (c : Claim) (ms : Members) → AreExtra 125 listed.Claim c.extra ms → claim_spec c ≡ object (put_all (spec_pairs c) ms)
unfolding claim_spec
spec_is c ms h = ap (λ es. object (put_all (spec_pairs c) es)) (extra_back 125 listed.Claim c.extra ms (omega arith) h)

spec_names : (c : Claim) (ms : Members) → AreExtra 125 listed.Claim c.extra ms → (k : List ℕ) → is_listed_member listed.Claim k ≡ true
    → get_member k (put_all (spec_pairs c) ms) ≡ pick k (spec_pairs c) None
spec_names c ms h k is = spec_has listed.Claim (spec_pairs c) ms k h.others is

shape_back : (c : Claim) (ms : Members) → IsAmount c.amount → AreExtra 125 listed.Claim c.extra ms → claim_shape (spec_place c ms) ≡ Ok (record { modes = c.modes; block = c.block; amount = c.amount })
unfolding claim_shape
shape_back c ms ha h =
    let has = spec_names c ms h in
    rw (
      modes_back (spec_place c ms) c.modes (has (codes "accessModes") refl),
      block_back (spec_place c ms) c.block (has (codes "volumeMode") refl),
      has (codes "resources") refl,
      requests_are c.amount,
      storage_is c.amount,
    )
    (rw (quantity_back members.Storage (Some (object (member (codes "storage") (string c.amount.text) no_members))) c.amount ha refl) refl)

ties_back : (c : Claim) (ms : Members) → IfSome c.selector IsSelector → AreExtra 125 listed.Claim c.extra ms
    → claim_ties (spec_place c ms) ≡ Ok (record { class = c.class; selector = c.selector; volume_name = c.volume_name })
unfolding claim_ties
ties_back c ms hs h =
    let has = spec_names c ms h in
    rw (
      optional_text_back members.StorageClassName (spec_place c ms) c.class (has (codes "storageClassName") refl),
      selector_back (spec_place c ms) c.selector hs (has (codes "selector") refl),
      text_back members.VolumeName (spec_place c ms) c.volume_name (has (codes "volumeName") refl),
    ) refl

pub claim_back : (c : Claim) → IsClaim c → claim_of (claim_data c) ≡ Ok c
unfolding claim_of
claim_back c h =
    let ms : Members = h.extra.0 in
    rw (meta_back true c.meta (claim_data c) h.meta (claim_has (codes "metadata") c), claim_has (codes "spec") c, spec_is c ms h.extra.1)
    (rw (shape_back c ms h.amount h.extra.1, ties_back c ms h.selector h.extra.1, status_back c h.got, kept_back 125 listed.Claim (spec_pairs c) c.extra ms h.extra.1 refl) refl)
