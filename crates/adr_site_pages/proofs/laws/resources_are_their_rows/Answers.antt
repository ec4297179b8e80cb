use Rattle.adr_site_pages.proofs.SiteLemmas.{resources_told}
use Rattle.adr_site_pages.proofs.laws.resources_are_their_rows.Goals as goal

pub returns : goal.returns
returns c held ven page = resources_told held.base ven page
