use Rattle.std.proofs.Common.{◌∙◌, sym, ap, ◌+◌, ◌≤◌, arith, length, drop, length-append, length-drop}
use Rattle.std.proofs.lemmas.List.{drop_all}
use Rattle.fault_io.proofs.Fronts.{front_taken}
use Rattle.fault_io.proofs.memory.MemorySourceSource.read.Goals as goal

pub returns-clause-bytes : goal.returns-clause-bytes
returns-clause-bytes c =
    let inside = c.self.inside in
    let within : inside.at + c.min-count.result ≤ length inside.bytes.items = omega (arith, c.self.invariant.0) in
    let piece = rw c.deref-2.ensures.value at c.copy_from_slice.ensures.after in (
      sym (ap (λ s. s.left) c.self.view_is) ∙ front_taken _ _ _ _ _ within piece,
      λ none some.
          let all : length inside.bytes.items ≤ inside.at + c.min-count.result =
          omega (
            arith,
            c.self.invariant.1,
            length-append c.copy_from_slice.new.self (drop c.min-count.result c.args.buf.now),
            length-drop c.min-count.result c.args.buf.now,
            c.copy_from_slice.ensures.len,
          ) in
          drop_all _ _ all,
    )
