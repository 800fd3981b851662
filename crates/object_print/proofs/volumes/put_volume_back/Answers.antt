use Rattle.object_print.proofs.volumes.put_volume_back.Goals as goal

pub returns : goal.returns
returns g c =
    let ok = rw (c.volume_mode.ensures, c.in_ok-put_filled.ensures.ok, c.as_str.ensures, c.in_ok-put_text.ensures.ok, c.name.ensures, c.in_ok-put_optional.ensures.ok) at c.put_text-2.ensures.ok in
    record { ok = ok }
