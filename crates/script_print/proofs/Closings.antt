-- What stands between the brackets of lines is their data.
use Rattle.std.proofs.Common.{◌≡◌, ℕ, List, [], ◌∷◌, codes, refl}
use Rattle.serde_json.specs.Data.{no_members}
use Rattle.call_types.specs.declared.setup.Pool.{Pool}
use Rattle.kube_objects.specs.declared.objects.Object.{Object}
use Rattle.json_text.specs.Members.{text, whole, with_options, with_member_text}
use Rattle.json_text.specs.Writing.{Writing, closed, opened, with_all, with_value, with_texts}
use Rattle.json_text.proofs.Closing.{closes}
use Rattle.json_text.proofs.MemberTexts.{closes_over}
use Rattle.script_text.specs.declared.script.Line.{Line}
use Rattle.script_print.specs.Printing.{line_pairs, line_data, pool_pairs, pool_data, fault_data, import_pairs, import_data}

pub closes_line : (line : Line) (w : Writing) → closed 125 (with_texts (with_options with_member_text (line_pairs line) []) (opened 123 w)) ≡ with_value (line_data line) w
unfolding line_data
closes_line line w = closes_over (line_pairs line) no_members w

pub closes_pool : (pool : Pool) (size : List ℕ) (w : Writing) → closed 125 (with_texts (with_options with_member_text (pool_pairs pool size) []) (opened 123 w)) ≡ with_value (pool_data pool size) w
unfolding pool_data
closes_pool pool size w = closes_over (pool_pairs pool size) no_members w

pub closes_fault : (call : ℕ) (w : Writing) → closed 125 (with_all ((codes "call", whole call) ∷ (codes "do", text (codes "fault")) ∷ []) (opened 123 w)) ≡ with_value (fault_data call) w
unfolding fault_data
closes_fault call w = closes ((codes "call", whole call) ∷ (codes "do", text (codes "fault")) ∷ []) w refl

pub closes_import : (object : Object) (w : Writing) → closed 125 (with_all (import_pairs object) (opened 123 w)) ≡ with_value (import_data object) w
unfolding import_data
closes_import object w = closes (import_pairs object) w refl
