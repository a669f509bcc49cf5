mod LedgerFacts
mod MakeFacts
mod PutFacts
mod TrimFacts
mod WorthFacts
