-- What is printed of an entry or a setup is read again.
use Rattle.std.proofs.Common.{◌≡◌, ℕ, List, [], ◌∷◌, ◌++◌, Option, Some, None, codes, refl, ap, ◌∙◌}
use Rattle.std.specs.List.{All}
use Rattle.serde_json.specs.Data.{no_members}
use Rattle.json_text.specs.Build.{number_data}
use Rattle.json_text.specs.Members.{filled_array, object_of}
use Rattle.json_text.proofs.PutAll.{get-put_all}
use Rattle.kube_objects.specs.declared.objects.Object.{Object}
use Rattle.call_types.specs.declared.request.SeatKind.{SeatKind}
use Rattle.call_types.specs.declared.request.SeatKind.TheVariants as seats
use Rattle.call_types.specs.declared.entry.Entry.{Entry}
use Rattle.call_types.specs.declared.setup.Pool.{Pool}
use Rattle.call_types.specs.declared.setup.Setup.{Setup}
use Rattle.object_print.specs.Objects.{object_data}
use Rattle.object_laws.specs.Given.{IsGivenObject}
use Rattle.call_types.specs.Words.{seat_word}
use Rattle.history_text.specs.Entries.{entry_pairs, entry_data, pool_pairs, pool_data, setup_pairs, setup_data}
use Rattle.history_lines.specs.Words.{seat_named}
use Rattle.history_lines.specs.Members.{number_in, object_in, some_list_from}
use Rattle.history_lines.specs.Entries.{entry_at, entry_in, pool_at, pool_in, parts_at, parts_in, setup_in}
use Rattle.history_lines.proofs.Imports.{imports_tested}
use Rattle.history_laws.specs.Read.Given.{IsNumber, IsEntry, IsPool, IsSetup}
use Rattle.history_laws.proofs.Read.Members.{shown, looked, next, object_again, list_back}
use Rattle.history_laws.proofs.Read.RequestsBack.{request_back}
use Rattle.history_laws.proofs.Read.RepliesBack.{reply_back}

seat_back : (kind : SeatKind) → seat_named (seat_word kind) ≡ Some kind
seat_back seats.User = refl
seat_back seats.Binder = refl
seat_back seats.Ops = refl
seat_back seats.Scheduler = refl
seat_back seats.ClaimProtect = refl
seat_back seats.VolumeProtect = refl
seat_back seats.Agent = refl

pub entry_back : (e : Entry) → IsEntry e → entry_in (entry_data e) ≡ Some e
unfolding entry_in entry_data
entry_back e is = ap entry_at (looked (entry_pairs e)) ∙ rw (request_back e.request is.request, seat_back e.kind, reply_back e.reply is.reply) refl

-- ---- setups

number_back : (n : ℕ) → IsNumber n → number_in (number_data n) ≡ Some n
number_back n is = refl

abbrev pool : List ℕ → List ℕ → ℕ → Option (List ℕ × List ℕ) → Pool
pool name provisioner bytes topology = record { name = name; provisioner = provisioner; bytes = bytes; topology = topology }

pool_found : (name provisioner : List ℕ) (bytes : ℕ) (topology : Option (List ℕ × List ℕ))
    → pool_at (shown (pool_pairs (pool name provisioner bytes topology))) ≡ Some (pool name provisioner bytes topology)
pool_found name provisioner bytes None = refl
pool_found name provisioner bytes (Some t) = refl

pool_back : (p : Pool) → IsPool p → pool_in (pool_data p) ≡ Some p
unfolding pool_in pool_data
pool_back p is = ap pool_at (looked (pool_pairs p)) ∙ pool_found p.name p.provisioner p.bytes p.topology

imports_back : (os : List Object) → All IsGivenObject os → some_list_from object_in (filled_array object_data os) ≡ Some os
imports_back [] is = refl
imports_back (o ∷ os) is = list_back object_in object_data IsGivenObject object_again (o ∷ os) is

parts_back : (s : Setup) → IsSetup s → parts_in (object_of (setup_pairs s)) ≡ Some s
unfolding parts_in
parts_back s is =
    ap parts_at (looked (setup_pairs s))
    ∙ rw (
      list_back number_in number_data IsNumber number_back s.faults is.faults,
      imports_back s.imports is.imports,
      list_back pool_in pool_data IsPool pool_back s.pools is.pools,
      is.rising,
      imports_tested [] s.imports is.passing,
    ) refl

pub setup_back : (s : Setup) → IsSetup s → setup_in (setup_data s) ≡ Some s
unfolding setup_in setup_data
setup_back s is = next parts_in (get-put_all (codes "setup") ((codes "setup", Some (object_of (setup_pairs s))) ∷ []) no_members) ∙ parts_back s is
