use Rattle.adr_desk.proofs.step.apply_in.Goals as goal

pub returns-in-ScanEnd-clause-whole : goal.returns-in-ScanEnd-clause-whole
returns-in-ScanEnd-clause-whole g c = rw c.in-ScanEnd.is c.end_scan.ensures.whole

pub returns-in-ScanEnd-clause-listed : goal.returns-in-ScanEnd-clause-listed
returns-in-ScanEnd-clause-listed g c = rw c.in-ScanEnd.is c.end_scan.ensures.listed
