-- Examples of the definitions: cases that hold, and cases beside them that do not. A choice of this project.
use Rattle.std.specs.Prelude.{ℕ, ◌≡◌, ◌≢◌, true, false, List, [], ◌∷◌, None}
use Rattle.kube_parts.specs.declared.parts.Kind.{Kind}
use Rattle.kube_parts.specs.declared.parts.Kind.TheVariants.{PersistentVolume, Pod, Node}
use Rattle.call_types.specs.declared.entry.Entry.{Entry}
use Rattle.call_types.specs.declared.reply.Refusal.TheVariants.{NotFound}
use Rattle.call_types.specs.declared.reply.Reply.{Reply}
use Rattle.call_types.specs.declared.reply.Reply.TheVariants as replies
use Rattle.call_types.specs.declared.request.Request.{Request}
use Rattle.call_types.specs.declared.request.Request.TheVariants as requests
use Rattle.call_types.specs.declared.request.SeatKind.{SeatKind}
use Rattle.call_types.specs.declared.request.SeatKind.TheVariants as seats
use Rattle.script_text.specs.declared.script.Line.{Line}
use Rattle.script_text.specs.declared.script.Line.TheVariants as lines
use Rattle.shared_work.specs.declared.crew.Hired.{Hired}
use Rattle.shared_work.specs.Crew.{Each, all_seats, numbers_from}
use Rattle.shared_work.specs.Lines.{AreOfLines, HasDone, asked_by}
use Rattle.shared_work.specs.Seats.{seats_at}
use Rattle.shared_work.specs.Users.{AreOfUsers}

-- a list of a kind
abbrev pub all_of : Kind → Request
all_of kind = requests.List kind None

-- a user's line that lists a kind
abbrev pub says : ℕ → Kind → Line
says user kind = lines.Call user (all_of kind)

-- two users, one of whom asks for volumes twice
abbrev pub two_users : List Line
two_users = says 1 Pod ∷ says 2 Node ∷ lines.Drain ∷ says 1 PersistentVolume ∷ says 1 PersistentVolume ∷ []

-- an empty list
abbrev pub nothing : Reply
nothing = replies.Listed [] 0

-- a refusal
abbrev pub refused : Reply
refused = replies.Refused NotFound

-- a user's entry
abbrev pub entry : ℕ → Kind → Reply → Entry
entry seat kind reply = record { seat = seat; kind = seats.User; request = all_of kind; reply = reply; told = true }

-- the entry, whose answer was lost
abbrev pub untold : Entry → Entry
untold e = record e { told = false }

-- the entry, asked by a client of this kind
abbrev pub asked_as : SeatKind → Entry → Entry
asked_as kind e = record e { kind = kind }

-- which requests the lines of a user ask
pub record LineExamples : Type 0 where
  pub in_their_order : asked_by 1 (says 1 Pod ∷ says 1 Node ∷ []) ≡ all_of Pod ∷ all_of Node ∷ []
  pub in_no_other : asked_by 1 (says 1 Pod ∷ says 1 Node ∷ []) ≢ all_of Node ∷ all_of Pod ∷ []
  pub equal_lines_are_two : asked_by 1 two_users ≡ all_of Pod ∷ all_of PersistentVolume ∷ all_of PersistentVolume ∷ []
  pub each_user_its_own : asked_by 2 two_users ≡ all_of Node ∷ []
  pub nobody_else : asked_by 3 two_users ≡ []
  pub no_other_line : asked_by 1 (lines.Drain ∷ []) ≡ []
  pub each_once : AreOfLines 1 two_users (entry 1 PersistentVolume nothing ∷ entry 1 PersistentVolume nothing ∷ entry 1 Pod nothing ∷ [])
  pub whatever_is_answered : AreOfLines 2 two_users (entry 2 Node refused ∷ [])
  pub none_where_nothing_is_asked : AreOfLines 3 two_users []
  pub not_left_out : AreOfLines 1 two_users (entry 1 PersistentVolume nothing ∷ entry 1 Pod nothing ∷ []) → ⊥
  pub nor_where_it_is_refused : AreOfLines 2 two_users [] → ⊥
  pub not_twice : AreOfLines 2 two_users (entry 2 Node nothing ∷ entry 2 Node nothing ∷ []) → ⊥
  pub not_out_of_order : AreOfLines 1 (says 1 Pod ∷ says 1 Node ∷ []) (entry 1 Pod nothing ∷ entry 1 Node nothing ∷ []) → ⊥
  pub not_without_a_line : AreOfLines 3 two_users (entry 3 Node nothing ∷ []) → ⊥
  pub not_another_request : AreOfLines 2 two_users (entry 2 Pod nothing ∷ []) → ⊥
  pub not_at_another_seat : AreOfLines 2 two_users (entry 1 Node nothing ∷ []) → ⊥
  pub not_untold : AreOfLines 2 two_users (untold (entry 2 Node nothing) ∷ []) → ⊥
  pub not_as_a_controller : AreOfLines 2 two_users (asked_as seats.Binder (entry 2 Node nothing) ∷ []) → ⊥
  pub after_earlier_entries : HasDone two_users (2, entry 2 Pod nothing ∷ []) (2, entry 2 Node nothing ∷ entry 2 Pod nothing ∷ [])

-- a worker that is asked for the numbers of its seats
abbrev pub hired : List ℕ → ℕ → Hired (List ℕ)
hired numbers many = record { worker = numbers; seats = many }

-- which seats workers get
pub record SeatExamples : Type 0 where
  pub numbers_follow : numbers_from 5 3 ≡ 5 ∷ 6 ∷ 7 ∷ []
  pub no_number : numbers_from 5 0 ≡ []
  pub all_together : all_seats (hired [] 1 ∷ hired [] 3 ∷ []) ≡ 4
  pub one_after_another : Each (λ worker numbers. numbers ≡ worker) 1 (hired (1 ∷ []) 1 ∷ hired (2 ∷ 3 ∷ []) 2 ∷ hired (4 ∷ []) 1 ∷ [])
  pub not_the_first_again : Each (λ worker numbers. numbers ≡ worker) 1 (hired (1 ∷ []) 1 ∷ hired (1 ∷ 2 ∷ []) 2 ∷ []) → ⊥
  pub not_by_their_place : Each (λ worker numbers. numbers ≡ worker) 1 (hired (1 ∷ 2 ∷ []) 2 ∷ hired (2 ∷ []) 1 ∷ []) → ⊥
  pub own_entries : seats_at (entry 2 Pod nothing ∷ entry 1 Node nothing ∷ []) (1 ∷ 3 ∷ []) ≡ (1, entry 1 Node nothing ∷ []) ∷ (3, []) ∷ []

-- a history in which the users' calls came one between another
abbrev pub mixed : List Entry
mixed = entry 1 PersistentVolume nothing ∷ entry 2 Node nothing ∷ entry 1 PersistentVolume nothing ∷ entry 1 Pod nothing ∷ []

-- whose entries are those of the users
pub record UserExamples : Type 0 where
  pub one_between_another : AreOfUsers two_users mixed
  pub no_fifth_seat : AreOfUsers two_users (entry 5 Node nothing ∷ mixed) → ⊥
  pub no_seat_before_the_first : AreOfUsers two_users (entry 0 Node nothing ∷ mixed) → ⊥
  pub no_user_without_its_calls : AreOfUsers (says 3 Pod ∷ two_users) mixed → ⊥
  pub no_call_without_a_line : AreOfUsers [] mixed → ⊥
