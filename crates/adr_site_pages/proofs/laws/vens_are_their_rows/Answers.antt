use Rattle.adr_site_pages.proofs.SiteLemmas.{vens_told}
use Rattle.adr_site_pages.proofs.laws.vens_are_their_rows.Goals as goal

pub returns : goal.returns
returns c held sight page = vens_told held.base sight page
