use Rattle.history_text.proofs.asks.put_arguments.Goals as goal

pub returns-in_ok-put_unmount-in-Mount : goal.returns-in_ok-put_unmount-in-Mount
returns-in_ok-put_unmount-in-Mount c =
    let ok = rw (c.as_slice.ensures, c.in_ok-put_unmount-in-Mount.ensures.ok) at c.put_list.ensures.ok in
    rw c.in-Mount.is (record { ok = ok })
