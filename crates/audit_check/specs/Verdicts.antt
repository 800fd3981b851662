-- Which verdict a history gets: whether it is a run, else the first entry that breaks it and why.
-- A choice of this project: a history that anyone hands over is judged by what a run is, whatever program wrote it.
use Rattle.std.specs.Prelude.{ℕ, ◌≡◌, ◌+◌, List, ◌∷◌, ◌++◌, reverse, length}
use Rattle.call_types.specs.declared.entry.Entry.{Entry}
use Rattle.call_types.specs.declared.setup.Setup.{Setup}
use Rattle.binder_model.specs.World.{world, effect, reply_to}
use Rattle.binder_model.specs.Told.{own}
use Rattle.binder_model.specs.Licence.{IsRefusedBy}
use Rattle.binder_model.specs.Run.{Run}
use Rattle.audit_check.specs.declared.verdict.AuditRule.{AuditRule}
use Rattle.audit_check.specs.declared.verdict.AuditRule.TheVariants.{Answer, Licence}
use Rattle.audit_check.specs.declared.verdict.Verdict.{Verdict}
use Rattle.audit_check.specs.declared.verdict.Verdict.TheVariants.{Yes, No}

-- the entry has the answer of the world of the entries before it, the newest of which stands first
abbrev pub HasItsAnswer : Setup → List Entry → Entry → Type 0
HasItsAnswer setup past e = e.reply ≡ reply_to (effect setup (world setup past) e.kind e.request)

-- the entry breaks a run of the entries before it. A wrong answer comes before what its seat was told
abbrev pub Breaks : Setup → List Entry → Entry → AuditRule → Type 0
Breaks setup past e Answer = HasItsAnswer setup past e → ⊥
Breaks setup past e (Licence rule) = HasItsAnswer setup past e × IsRefusedBy e.kind (own e.seat past) e.request rule

-- the entries before the one of this number, counted from 1, are a run, which that one breaks by this rule
pub record IsFirstBreak (setup : Setup) (entries : List Entry) (number : ℕ) (rule : AuditRule) : Type 0 where
  pub before : List Entry
  pub entry : Entry
  pub later : List Entry
  pub stand : entries ≡ before ++ entry ∷ later
  pub place : number ≡ length before + 1
  pub run : Run setup (reverse before)
  pub breaks : Breaks setup (reverse before) entry rule

-- the verdict on entries, the oldest of which stands first
abbrev pub IsVerdict : Setup → List Entry → Verdict → Type 0
IsVerdict setup entries Yes = Run setup (reverse entries)
IsVerdict setup entries (No number rule) = IsFirstBreak setup entries number rule
