use Rattle.adr_site_pages.proofs.SiteLemmas.{subs_told}
use Rattle.adr_site_pages.proofs.laws.subs_are_their_rows.Goals as goal

pub returns : goal.returns
returns c held sight wanted page = subs_told held.base.portfolio sight wanted page
