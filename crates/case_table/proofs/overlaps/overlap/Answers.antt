use Rattle.std.proofs.lemmas.Option.{slice_get-get_or}
use Rattle.case_table.proofs.Sharing.{overlap_no, overlap_yes}
use Rattle.case_table.proofs.overlaps.overlap.Goals as goal

pub returns-clause-yes : goal.returns-clause-yes
returns-clause-yes g c =
    overlap_yes c.args.rows.now c.args.first c.args.second _ _ c.share.result
    (slice_get-get_or c.args.rows.now c.args.first c.index-rows-first.result c.requires.first)
    (slice_get-get_or c.args.rows.now c.args.second c.index-rows-second.result c.requires.second) c.share.ensures.first c.share.ensures.second c.share.ensures.answer

pub returns-clause-no : goal.returns-clause-no
returns-clause-no g c =
    overlap_no c.args.rows.now c.args.first c.args.second _ _ c.share.result
    (slice_get-get_or c.args.rows.now c.args.first c.index-rows-first.result c.requires.first)
    (slice_get-get_or c.args.rows.now c.args.second c.index-rows-second.result c.requires.second) c.share.ensures.first c.share.ensures.second c.share.ensures.answer
