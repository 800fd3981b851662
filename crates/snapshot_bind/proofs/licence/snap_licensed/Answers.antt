use Rattle.snapshot_bind.specs.Licences.{SnapLicensed}
use Rattle.snapshot_bind.proofs.licence.snap_licensed.Goals as goal

pub returns-in-SnapGet : goal.returns-in-SnapGet
unfolding SnapLicensed
returns-in-SnapGet c = rw c.in-SnapGet.is c.told_content.ensures

pub returns-in-Cut : goal.returns-in-Cut
unfolding SnapLicensed
returns-in-Cut c = rw c.in-Cut.is c.may_cut.ensures

pub returns-in-BindContent : goal.returns-in-BindContent
unfolding SnapLicensed
returns-in-BindContent c = rw c.in-BindContent.is c.may_bind_content.ensures

pub returns-in-BindSnapshot : goal.returns-in-BindSnapshot
unfolding SnapLicensed
returns-in-BindSnapshot c = rw c.in-BindSnapshot.is c.may_bind_snapshot.ensures

pub returns-in-DropSnapshot : goal.returns-in-DropSnapshot
unfolding SnapLicensed
returns-in-DropSnapshot c = rw c.in-DropSnapshot.is c.may_drop_snapshot.ensures

pub returns-in-DropContent : goal.returns-in-DropContent
unfolding SnapLicensed
returns-in-DropContent c = rw c.in-DropContent.is c.may_drop_content.ensures
