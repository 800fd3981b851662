-- The front that lets all pass, holds nothing back and changes nothing: a drain behind it is a drain, and each drain is one.
-- A choice of this project.
use Rattle.std.specs.Prelude.{ℕ, ◌≡◌, false, List}
use Rattle.call_types.specs.declared.entry.Entry.{Entry}
use Rattle.call_types.specs.declared.setup.Setup.{Setup}
use Rattle.actor_rounds.specs.declared.drainers.Drainer.{Drainer}
use Rattle.actor_rounds.specs.Rounds.{Drains, Lets, all_pass}
use Rattle.front_rounds.specs.declared.front.AlwaysPass.{AlwaysPass}
use Rattle.front_rounds.specs.Behind.{DrainsBehind, Holds}

-- it lets all pass
abbrev pub lets_all : AlwaysPass → Lets
lets_all f = all_pass

-- it holds nothing back
abbrev pub holds_none : AlwaysPass → Holds
holds_none f w o action = false

-- it stays as it is
abbrev pub StaysItself : List Entry → AlwaysPass → AlwaysPass → Type 0
StaysItself h f g = g ≡ f

-- each drain behind such a front is a drain
abbrev pub AlwaysPassingDrains : Type 0
AlwaysPassingDrains =
    (setup : Setup) (last : AlwaysPass) (after : List Drainer) (past : List Entry) (left : ℕ) (f : AlwaysPass) (ds : List Drainer) (h : List Entry) (b : ℕ)
    → DrainsBehind lets_all holds_none StaysItself setup last after past left f ds h b → Drains all_pass setup after past left ds h b

-- and each drain is one behind such a front
abbrev pub DrainsPassAlways : Type 0
DrainsPassAlways =
    (setup : Setup) (f : AlwaysPass) (after : List Drainer) (past : List Entry) (left : ℕ) (ds : List Drainer) (h : List Entry) (b : ℕ)
    → Drains all_pass setup after past left ds h b → DrainsBehind lets_all holds_none StaysItself setup f after past left f ds h b
