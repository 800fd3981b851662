-- What stands between the brackets of asks, replies and entries is their data.
use Rattle.std.proofs.Common.{◌≡◌, [], refl}
use Rattle.serde_json.specs.Data.{no_members}
use Rattle.json_text.specs.Members.{with_member_text, with_options}
use Rattle.json_text.specs.Writing.{Writing, closed, opened, with_all, with_texts, with_value}
use Rattle.json_text.proofs.Closing.{closes}
use Rattle.json_text.proofs.MemberTexts.{closes_over}
use Rattle.side_calls.specs.declared.asks.SideAsk.{SideAsk}
use Rattle.side_calls.specs.declared.asks.SideReply.{SideReply}
use Rattle.side_text.specs.declared.entries.PlacedEntry.{PlacedEntry}
use Rattle.side_text.specs.Entries.{ask_data, ask_pairs, entry_pairs, reply_data, reply_pairs, side_data}

pub closes_ask : (a : SideAsk) (w : Writing) → closed 125 (with_texts (with_options with_member_text (ask_pairs a) []) (opened 123 w)) ≡ with_value (ask_data a) w
unfolding ask_data
closes_ask a w = closes_over (ask_pairs a) no_members w

pub closes_reply : (r : SideReply) (w : Writing) → closed 125 (with_texts (with_options with_member_text (reply_pairs r) []) (opened 123 w)) ≡ with_value (reply_data r) w
unfolding reply_data
closes_reply r w = closes_over (reply_pairs r) no_members w

pub closes_entry : (e : PlacedEntry) (w : Writing) → closed 125 (with_all (entry_pairs e) (opened 123 w)) ≡ with_value (side_data e) w
unfolding side_data
closes_entry e w = closes (entry_pairs e) w refl
